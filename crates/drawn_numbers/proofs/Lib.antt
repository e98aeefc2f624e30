mod Lists
mod Draws
mod DrawerLists
mod Endings
