-- Which names stand in the index, and in what order: those that somebody holds or awaits; a new one stands last.
use Rattle.std.proofs.Common.{◌≡◌, ◌∙◌, ◌-◌, ◌+◌, ℕ, Bool, true, false, ◌||◌, List, [], ◌∷◌, ◌++◌, Option, None, Some, is_some, length, take, refl, ap, sym, true≢false, arith}
use Rattle.std.specs.List.{IsDistinct, list_any, swap_remove}
use Rattle.std.specs.Map.{keys_of}
use Rattle.std.specs.Option.{option_map, option_map_or}
use Rattle.std.specs.Prelude.{slice_get}
use Rattle.std.proofs.lemmas.List.{take-map}
use Rattle.std.proofs.lemmas.Map.Made.{is_some-lookup}
use Rattle.std.proofs.lemmas.Option.{slice_get-map}
use Rattle.indexmap.specs.IndexMap.{insert_entry, swap_remove_entry}
use Rattle.indexmap.proofs.MapLemmas.{absent_from_lookup, index-first, insert_entry-absent, swap_remove_entry-found, swap_remove_last}
use Rattle.indexmap.proofs.RemoveLemmas.{own_first}
use Rattle.iso_types.specs.contracts.value.NameEq.TheImpl.Laws.{laws-law}
use Rattle.iso_types.specs.Ids.{name_eq}
use Rattle.iso_types.specs.declared.value.Conn.{Conn}
use Rattle.iso_types.specs.declared.value.Name.{Name}
use Rattle.iso_queue.specs.Lines.{Line, is_holder, is_touched, is_used, is_waiter}
use Rattle.iso_queue.specs.declared.types.Hold.{Hold}
use Rattle.iso_queue.specs.declared.types.Waiter.{Waiter}
use Rattle.iso_lines.specs.Named.{IsNamed, IsWhole, Named, key_of, line_of, line_under, nobody, same}
use Rattle.iso_lines.proofs.Names.{name_same}
use Rattle.iso_lines.proofs.Tests.{same_names}
use Rattle.iso_lines.proofs.Touched.{IsTouched, key_like, named-touched, others-touched}

-- who holds or awaits a name uses it
used_by : (hs : List Hold) (ws : List Waiter) (c : Conn) → (is_holder hs c || is_waiter ws c) ≡ true → (list_any (λ _. true) hs || list_any (λ _. true) ws) ≡ true
used_by [] [] c e = e
used_by [] (w ∷ ws) c e = refl
used_by (h ∷ hs) ws c e = refl

pub touched_used : (q : Line) (c : Conn) → is_touched q c ≡ true → is_used q ≡ true
touched_used q c e = used_by q.holders q.waiters c e

-- a name whose line is empty stands not in the index
pub none_there : (l : Named) → IsWhole l.index l.slots → (n : Name) → line_of l n ≡ nobody → key_of l.index n ≡ None
none_there l whole n empty = by (key_of l.index n) refl
  where
    by : (o : Option ℕ) → key_of l.index n ≡ o → o ≡ None
    by None e = refl
    by (Some k) e = absurd (true≢false (sym (whole.used n (ap is_some e)) ∙ ap is_used empty))

line_alike : (l : Named) (n m : Name) → name_eq n m ≡ true → line_of l n ≡ line_of l m
line_alike l n m e = ap (λ o. option_map_or (line_under l.slots) o nobody) (key_like l.index n m e)

-- after a change of one name's part the index is whole, where the others were used and that name is
pub whole-touched : (old new : Named) (n : Name) → IsTouched old new n → IsNamed old.index old.slots
    → ((m : Name) → name_eq n m ≡ false → is_some (key_of old.index m) ≡ true → is_used (line_of old m) ≡ true)
    → (is_some (key_of new.index n) ≡ true → is_used (line_of new n) ≡ true) → IsWhole new.index new.slots
whole-touched old new n t inv others own = record { named = named-touched old new n t inv; used = λ m e. by m e (name_eq n m) refl }
  where
    by : (m : Name) → is_some (key_of new.index m) ≡ true → (b : Bool) → name_eq n m ≡ b → is_used (line_of new m) ≡ true
    by m e true f = ap is_used (sym (line_alike new n m f)) ∙ own (ap is_some (key_like new.index n m f) ∙ e)
    by m e false f = ap is_used (others-touched old new n t m f) ∙ others m f (ap is_some (sym (t.keys m f)) ∙ e)

-- the last name of the keys
at_last : (ns : List Name) (n : Name) → slice_get (ns ++ n ∷ []) (length ns) ≡ Some n
at_last [] n = refl
at_last (m ∷ ns) n = at_last ns n

all_but_last : (ns : List Name) (n : Name) → take (length ns) (ns ++ n ∷ []) ≡ ns
all_but_last [] n = refl
all_but_last (m ∷ ns) n = ap (λ (l : List Name). m ∷ l) (all_but_last ns n)

one_more : (ns : List Name) (n : Name) → length (ns ++ n ∷ []) ≡ length ns + 1
one_more [] n = refl
one_more (m ∷ ns) n = omega (arith, one_more ns n)

length_of_keys : (es : List (Name × ℕ)) → length es ≡ length (keys_of es)
length_of_keys [] = refl
length_of_keys (e ∷ es) = omega (arith, length_of_keys es)

-- to take the last name out leaves the others as they stood
pub last_out : (n : Name) (es : List (Name × ℕ)) (ns : List Name) → IsDistinct same (keys_of es) → keys_of es ≡ ns ++ n ∷ []
    → keys_of (swap_remove_entry (same n) es) ≡ ns
last_out n es ns once is = by (slice_get es (length ns)) refl
  where
    named : option_map (λ (e : Name × ℕ). e.0) (slice_get es (length ns)) ≡ Some n
    named = sym (slice_get-map (λ (e : Name × ℕ). e.0) es (length ns)) ∙ ap (λ (l : List Name). slice_get l (length ns)) is ∙ at_last ns n

    long : length es - 1 ≡ length ns
    long = omega (arith, length_of_keys es, ap length is, one_more ns n)

    by : (o : Option (Name × ℕ)) → slice_get es (length ns) ≡ o → keys_of (swap_remove_entry (same n) es) ≡ ns
    by None e = absurd (true≢false (sym (ap is_some (sym (ap (option_map (λ (p : Name × ℕ). p.0)) e) ∙ named))))
    by (Some p) e =
        let own : p.0 ≡ n = ap (λ (o : Option Name). option_map_or (λ m. m) o n) (sym (ap (option_map (λ (x : Name × ℕ). x.0)) e) ∙ named) in
        let at : slice_get es (length ns) ≡ Some (n, p.1) = e ∙ ap (λ (m : Name). Some (m, p.1)) own in
        let first = index-first (same n) es (length ns) (own_first same laws-law es (length ns) n p.1 once at) in
        ap keys_of (swap_remove_entry-found (same n) es (length ns) p first)
        ∙ ap (λ (i : ℕ). keys_of (swap_remove es i p)) (sym long)
        ∙ ap keys_of (swap_remove_last es p)
        ∙ ap (λ (i : ℕ). keys_of (take i es)) long
        ∙ sym (take-map (λ (x : Name × ℕ). x.0) (length ns) es)
        ∙ ap (take (length ns)) is ∙ all_but_last ns n

keys_more : (es : List (Name × ℕ)) (n : Name) (k : ℕ) → keys_of (es ++ (n, k) ∷ []) ≡ keys_of es ++ n ∷ []
keys_more [] n k = refl
keys_more (e ∷ es) n k = ap (λ (l : List Name). e.0 ∷ l) (keys_more es n k)

-- a new name stands last
pub new_last : (n : Name) (es : List (Name × ℕ)) (k : ℕ) → key_of es n ≡ None → keys_of (insert_entry same es n k) ≡ keys_of es ++ n ∷ []
new_last n es k none = ap keys_of (insert_entry-absent same n k es (absent_from_lookup (same n) es none)) ∙ keys_more es n k

-- where the others are used and the name is, the index is whole
pub whole_used : (l : Named) (n : Name) → IsNamed l.index l.slots
    → ((m : Name) → name_eq n m ≡ false → is_some (key_of l.index m) ≡ true → is_used (line_of l m) ≡ true) → is_used (line_of l n) ≡ true → IsWhole l.index l.slots
whole_used l n inv others own = record { named = inv; used = λ m e. by m e (name_eq n m) refl }
  where
    by : (m : Name) → is_some (key_of l.index m) ≡ true → (b : Bool) → name_eq n m ≡ b → is_used (line_of l m) ≡ true
    by m e true f = ap is_used (sym (line_alike l n m f)) ∙ own
    by m e false f = others m f e

or_right : (a b : Bool) → b ≡ true → (a || b) ≡ true
or_right true b e = refl
or_right false b e = e

stands_last : (ns : List Name) (n : Name) → list_any (same n) (ns ++ n ∷ []) ≡ true
stands_last [] n = ap (λ (b : Bool). b || false) (same_names n n ∙ name_same n)
stands_last (m ∷ ns) n = or_right (same n m) (list_any (same n) (ns ++ n ∷ [])) (stands_last ns n)

-- the last name of the keys has a key
pub last_there : (n : Name) (es : List (Name × ℕ)) (ns : List Name) → keys_of es ≡ ns ++ n ∷ [] → key_of es n ≡ None → ⊥
last_there n es ns is none =
    true≢false (sym (is_some-lookup (same n) es ∙ ap (list_any (same n)) is ∙ stands_last ns n) ∙ ap is_some none)
