mod LawProofs
mod SentMessages
mod RoomMade
mod Sound
