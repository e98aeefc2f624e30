-- What a seat keeps of the slots that come in to it.
use Rattle.std.specs.Prelude.{◌≡◌, ℕ, ◌≤◌}
use Rattle.mailboxes.specs.declared.ends.Slots.{Slots}
use Rattle.mailboxes.specs.Places.{incoming, incoming_count, incoming_stride}

-- how many they are, the first one, and how far the first slots of two links are apart
pub record AreIncoming (cores banks number : ℕ) (s : Slots) : Type 0 where
  pub count : s.count ≡ incoming_count cores banks number
  pub some : 4 ≤ s.count
  pub few : s.count ≤ 256
  pub first : s.first ≡ incoming cores banks number 0
  pub stride : s.stride ≡ incoming_stride cores banks number
  pub near : s.stride ≤ 256
