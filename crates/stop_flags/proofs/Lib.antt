mod Tells
mod SignalerLists
mod Endings
