mod CopiedMaps
mod HashedMaps
mod SortedEntries
