-- The pages of an index: lists of 1 to 128 entries, which one after the other are the index.
use Rattle.std.specs.List.{list_all, list_any}
use Rattle.std.specs.Prelude.{◌≡◌, Bool, true, false, ◌&&◌, List, [], ◌∷◌, ◌++◌, if◌then◌else◌, length, take, drop, filter, map, nat_lt}
use Rattle.iso_types.specs.Ids.{pair_lt}
use Rattle.iso_types.specs.declared.value.Rid.{Rid}
use Rattle.iso_types.specs.declared.value.Value.{Value}
use Rattle.iso_key.specs.Entries.{IsOrdered, has_pair, with_pair, without_pair}

-- all entries, page by page
abbrev pub entries : List (List (Value × Rid)) → List (Value × Rid)
entries [] = []
entries (page ∷ pages) = page ++ entries pages

-- the page has an entry
abbrev pub is_filled : List (Value × Rid) → Bool
is_filled [] = false
is_filled (p ∷ ps) = true

-- the page has 1 to 128 entries
abbrev pub is_page : List (Value × Rid) → Bool
is_page page = is_filled page && nat_lt (length page) 129

-- pages of 1 to 128 entries, all in order
pub record IsPaged (pages : List (List (Value × Rid))) : Type 0 where
  pub ordered : IsOrdered (entries pages)
  pub sized : list_all is_page pages ≡ true

-- the page's least entry is below the new one
abbrev pub starts_below : Value × Rid → List (Value × Rid) → Bool
starts_below p [] = false
starts_below p (q ∷ qs) = pair_lt q p

-- a page that would have more than 128 entries is split behind its first 64
abbrev pub parted : List (Value × Rid) → List (List (Value × Rid))
parted page = if nat_lt 128 (length page) then take 64 page ∷ drop 64 page ∷ [] else page ∷ []

-- a new entry goes into the last page whose least entry is below it, or into the first where there is no such page; without a page it makes one
abbrev pub placed : Value × Rid → List (List (Value × Rid)) → List (List (Value × Rid))
placed p [] = (p ∷ []) ∷ []
placed p (page ∷ pages) = if list_any (starts_below p) pages then page ∷ placed p pages else parted (with_pair p page) ++ pages

-- an entry that is there is not placed again
abbrev pub inserted : Value × Rid → List (List (Value × Rid)) → List (List (Value × Rid))
inserted p pages = if has_pair (entries pages) p then pages else placed p pages

-- the page where it has an entry
abbrev pub kept : List (Value × Rid) → List (List (Value × Rid))
kept [] = []
kept (p ∷ ps) = (p ∷ ps) ∷ []

-- the entry leaves its page, and an empty page is dropped
abbrev pub removed : Value × Rid → List (List (Value × Rid)) → List (List (Value × Rid))
removed p pages = filter is_filled (map (without_pair p) pages)
