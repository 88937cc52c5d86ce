-- Only a look or a step of an index scan moves a scan: which steps are recorded as one, and what is heard of the others.
use Rattle.std.proofs.Common.{◌≡◌, ◌⊎◌, inl, inr, ◌<◌, Bool, true, false, List, refl, Option, Some, None, if◌then◌else◌}
use Rattle.std.proofs.lemmas.Bool.{ltb-true}
use Rattle.std.specs.List.{list_any}
use Rattle.std.specs.Prelude.{nat_lt}
use Rattle.iso_agent.proofs.ScanSteps.{tells_scan}
use Rattle.iso_conduct.specs.Conduct.{heard, heard_lock}
use Rattle.iso_conduct.specs.Outcomes.{act_of}
use Rattle.iso_conduct.specs.declared.moves.Move.{Move}
use Rattle.iso_history.specs.Entries.{found, is_in_range, stand_of}
use Rattle.iso_history.specs.Holds.{next_name}
use Rattle.iso_history.specs.Looks.{look}
use Rattle.iso_history.specs.Nexts.{next, stand_after}
use Rattle.iso_history.specs.Outcomes.{asked_by, blocked_by, escalated_by, limited_by, look_by, next_by, written_by}
use Rattle.iso_history.specs.Requests.{Outcome, escalation, request}
use Rattle.iso_history.specs.Requests.Outcome.{Gives, Limit}
use Rattle.iso_history.specs.Versions.{slots}
use Rattle.iso_history.specs.World.{World}
use Rattle.iso_history.specs.Writes.{Written, deletes, inserts, updates}
use Rattle.iso_history.specs.Writes.Written.{AtLimit, Blocks, Done, IsFull, Refuses}
use Rattle.iso_history.specs.declared.entry.Act.{Act}
use Rattle.iso_history.specs.declared.entry.Act.TheVariants.{Look, ScanEnd}
use Rattle.iso_history.specs.declared.entry.Got.{Got}
use Rattle.iso_history.specs.declared.entry.Stand.{Stand}
use Rattle.iso_history.specs.declared.entry.Want.{Want}
use Rattle.iso_history.specs.declared.entry.Why.{Why}
use Rattle.iso_history.specs.declared.entry.Why.TheVariants.{Asked, Blocked, Escalation}
use Rattle.iso_modes.specs.declared.Mode.{Mode}
use Rattle.iso_modes.specs.declared.Mode.TheVariants.{S}
use Rattle.iso_types.specs.declared.head.Head.{Head}
use Rattle.iso_types.specs.declared.head.Range.{Range}
use Rattle.iso_types.specs.declared.value.Conn.{Conn}
use Rattle.iso_types.specs.declared.value.IndexId.{IndexId}
use Rattle.iso_types.specs.declared.value.Name.{Name}
use Rattle.iso_types.specs.declared.value.Name.TheVariants.{Table}
use Rattle.iso_types.specs.declared.value.Rid.{Rid}
use Rattle.iso_types.specs.declared.value.TableId.{TableId}
use Rattle.iso_types.specs.declared.value.Value.{Value}

-- the act is a granted look, or a step of an index scan that stands at an entry
abbrev pub steps_scan : Act → Bool
steps_scan (Look t r want Got.Granted) = true
steps_scan (Act.Next i range at guarded (Stand.At key r)) = true
steps_scan a = false

lock-shows : (why : Why) (got : Got) (n : Name) → list_any tells_scan (heard_lock why got n) ≡ false
lock-shows Asked Got.Granted n = refl
lock-shows Asked (Got.Queued m) n = refl
lock-shows Asked Got.TimedOut n = refl
lock-shows Escalation Got.Granted (Table t) = refl
lock-shows Escalation (Got.Queued m) (Table t) = refl
lock-shows Escalation Got.TimedOut n = refl
lock-shows Blocked (Got.Queued m) n = refl
lock-shows Blocked Got.TimedOut n = refl
lock-shows _ _ _ = refl

-- of no other entry a row or an entry is heard
pub heard-shows : (w v : World) (c : Conn) (a : Act) → steps_scan a ≡ false → list_any tells_scan (heard w v c a) ≡ false
heard-shows w v c (Act.Lock n m term why got) e = lock-shows why got n
heard-shows w v c (Look t r want Got.Granted) e = absurd (cc)
heard-shows w v c (Act.Next i range at guarded (Stand.At key r)) e = absurd (cc)
heard-shows w v c (Act.Next i range at guarded Stand.Past) e = refl
heard-shows w v c (Act.Next i range at guarded (Stand.Queued n)) e = refl
heard-shows w v c (Act.Next i range at guarded (Stand.TimedOut n)) e = refl
heard-shows w v c (Look t r want (Got.Queued m)) e = refl
heard-shows w v c (Look t r want Got.TimedOut) e = refl
heard-shows w v c _ e = refl

-- the step is a look at a slot that is there
pub record IsLookAt (w : World) (m : Move) (a : Act) : Type 0 where
  pub table : TableId
  pub rid : Rid
  pub want : Want
  pub move_is : m ≡ Move.Look table rid want
  pub act_is : a ≡ Look table rid want Got.Granted
  pub there : rid.0 < slots w table

-- the step is one of an index scan, which stands at this entry
pub record IsFoundAt (w : World) (m : Move) (a : Act) : Type 0 where
  pub index : IndexId
  pub range : Range
  pub at : Option (Value × Rid)
  pub guarded : Bool
  pub key : Value
  pub rid : Rid
  pub move_is : m ≡ Move.Next index range at guarded
  pub act_is : a ≡ Act.Next index range at guarded (Stand.At key rid)
  pub found_is : found w index range at ≡ Some (key, rid)

-- one of both
abbrev pub IsScanStep : World → Move → Act → Type 0
IsScanStep w m a = IsLookAt w m a ⊎ IsFoundAt w m a

stand-found : (range : Range) (o : Option (Value × Rid)) (key : Value) (r : Rid) → stand_of range o ≡ Stand.At key r → o ≡ Some (key, r)
stand-found range None key r e = absurd (cc)
stand-found range (Some p) key r e = go (is_in_range range p.0) e
  where
    go : (b : Bool) → (if b then Stand.At p.0 p.1 else Stand.Past) ≡ Stand.At key r → Some p ≡ Some (key, r)
    go true h = let a : p.0 ≡ key = cc in let b : p.1 ≡ r = cc in λ i. Some (a i, b i)
    go false h = absurd (cc)

unlooked : (b : Bool) → b ≡ false → b ≡ true → (P : Type 0) → P
unlooked b e f P = absurd (cc)

module _ (head : Head) (w : World) (c : Conn) where
  limit-looks : (o : Option (TableId × Mode)) → steps_scan (limited_by head w c o) ≡ false
  limit-looks None = refl
  limit-looks (Some p) = go (request head w c (Table p.0) p.1)
    where
      go : (o : Outcome) → steps_scan (escalated_by p.0 p.1 o) ≡ false
      go (Gives got) = refl
      go Limit = refl

  asked-looks : (n : Name) (m : Mode) (o : Outcome) → steps_scan (asked_by head w c n m o) ≡ false
  asked-looks n m (Gives got) = refl
  asked-looks n m Limit = limit-looks (escalation head w c)

  next-found : (i : IndexId) (range : Range) (at : Option (Value × Rid)) (guarded : Bool) (key : Value) (r : Rid)
      → next head w c i range at guarded ≡ Some (Stand.At key r) → found w i range at ≡ Some (key, r)
  next-found i range at false key r e = let k : stand_of range (found w i range at) ≡ Stand.At key r = cc in stand-found range (found w i range at) key r k
  next-found i range at true key r e = go (request head w c (next_name w i range at) S) e
    where
      go : (o : Outcome) → stand_after o (next_name w i range at) (stand_of range (found w i range at)) ≡ Some (Stand.At key r) → found w i range at ≡ Some (key, r)
      go (Gives Got.Granted) h = let k : stand_of range (found w i range at) ≡ Stand.At key r = cc in stand-found range (found w i range at) key r k
      go (Gives (Got.Queued m)) h = absurd (cc)
      go (Gives Got.TimedOut) h = absurd (cc)
      go Limit h = absurd (cc)

  next-made : (i : IndexId) (range : Range) (at : Option (Value × Rid)) (guarded : Bool) (o : Option Stand) → next head w c i range at guarded ≡ o
      → steps_scan (next_by head w c i range at guarded o) ≡ true → IsFoundAt w (Move.Next i range at guarded) (next_by head w c i range at guarded o)
  next-made i range at guarded (Some (Stand.At key r)) e h = record {
    index = i;
    range = range;
    at = at;
    guarded = guarded;
    key = key;
    rid = r;
    move_is = refl;
    act_is = refl;
    found_is = next-found i range at guarded key r e;
  }
  next-made i range at guarded (Some Stand.Past) e h = absurd (cc)
  next-made i range at guarded (Some (Stand.Queued n)) e h = absurd (cc)
  next-made i range at guarded (Some (Stand.TimedOut n)) e h = absurd (cc)
  next-made i range at guarded None e h = unlooked _ (limit-looks (escalation head w c)) h _

  written-looks : (a : Act) → steps_scan a ≡ false → (x : Written) → steps_scan (written_by head w c a x) ≡ false
  written-looks a e Done = e
  written-looks a e IsFull = refl
  written-looks a e (Refuses code) = refl
  written-looks a e AtLimit = limit-looks (escalation head w c)
  written-looks a e (Blocks n m) = go (request head w c n m)
    where
      go : (o : Outcome) → steps_scan (blocked_by head w c n m o) ≡ false
      go (Gives got) = refl
      go Limit = limit-looks (escalation head w c)

  look-made : (t : TableId) (r : Rid) (want : Want) (b : Bool) → nat_lt r.0 (slots w t) ≡ b → (o : Outcome)
      → steps_scan (if b then look_by head w c t r want o else ScanEnd t (slots w t)) ≡ true
      → IsLookAt w (Move.Look t r want) (if b then look_by head w c t r want o else ScanEnd t (slots w t))
  look-made t r want true e (Gives Got.Granted) h =
      record { table = t; rid = r; want = want; move_is = refl; act_is = refl; there = ltb-true r.0 (slots w t) e }
  look-made t r want true e (Gives (Got.Queued m)) h = absurd (cc)
  look-made t r want true e (Gives Got.TimedOut) h = absurd (cc)
  look-made t r want true e Limit h = unlooked _ (limit-looks (escalation head w c)) h _
  look-made t r want false e o h = absurd (cc)

  -- a step that is recorded as one of a scan is one
  pub made-look : (row : List Value) (rows : List (List Value)) (m : Move) → steps_scan (act_of head w c row rows m) ≡ true
      → IsScanStep w m (act_of head w c row rows m)
  made-look row rows (Move.Lock n m) h = unlooked _ (asked-looks n m (request head w c n m)) h _
  made-look row rows (Move.Look t r want) h = inl (look-made t r want (nat_lt r.0 (slots w t)) refl (look head w c t r want) h)
  made-look row rows (Move.Next i range at guarded) h = inr (next-made i range at guarded (next head w c i range at guarded) refl h)
  made-look row rows (Move.Insert t) h = unlooked _ (written-looks _ refl (inserts head w c t row)) h _
  made-look row rows (Move.Update t r) h = unlooked _ (written-looks _ refl (updates head w c t r row)) h _
  made-look row rows (Move.Delete t r) h = unlooked _ (written-looks _ refl (deletes head w c)) h _
  made-look row rows _ h = absurd (cc)
