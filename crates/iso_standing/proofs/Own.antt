-- What an own entry that goes on makes of the Collapse that is due, of its last entry and of its doom, as its parts have it in front.
use Rattle.std.proofs.Common.{◌≡◌, ◌⊎◌, inl, inr, ℕ, Bool, true, false, List, [], ◌∷◌, refl, sym, ◌∙◌, ap, subst, Option, Some, None, option_map, if◌then◌else◌}
use Rattle.std.specs.Option.{option_map_or}
use Rattle.std.specs.Prelude.{nat_lt}
use Rattle.iso_conduct.proofs.Open.{eq-same}
use Rattle.iso_conduct.specs.Answers.{answers}
use Rattle.iso_conduct.specs.Conduct.{ends, made}
use Rattle.iso_conduct.specs.Outcomes.{act_of}
use Rattle.iso_conduct.specs.Parts.{Part, rolling_list}
use Rattle.iso_conduct.specs.Parts.Part.{EntryLook, TableScan}
use Rattle.iso_conduct.specs.Points.{Haul, Point, due, due_by, row_by, row_due, rows_by, rows_due, told_point}
use Rattle.iso_conduct.specs.declared.moves.Told.{Told}
use Rattle.iso_history.specs.After.{after}
use Rattle.iso_history.specs.Lasts.{due_of, due_of_claim, last_of}
use Rattle.iso_history.specs.Legal.{is_fresh_on}
use Rattle.iso_history.specs.Looks.{look, shown}
use Rattle.iso_history.specs.Makers.{by_agent}
use Rattle.iso_history.specs.Outcomes.{at_limit, escalated_by, limited_by, look_act, look_by}
use Rattle.iso_history.specs.Phases.{doom_by, doom_of_agent}
use Rattle.iso_history.specs.Phases.Doom.{Dooms, Spares}
use Rattle.iso_history.specs.Requests.{Outcome, escalation, request}
use Rattle.iso_history.specs.Requests.Outcome.{Gives, Limit}
use Rattle.iso_history.specs.Stops.{is_full}
use Rattle.iso_history.specs.Versions.{slots}
use Rattle.iso_history.specs.World.{Last, World}
use Rattle.iso_history.specs.World.Last.{Awaits, Claimed, Looked, Other}
use Rattle.iso_history.specs.declared.entry.Act.{Act}
use Rattle.iso_history.specs.declared.entry.Act.TheVariants.{Look, ScanEnd, Stopped}
use Rattle.iso_history.specs.declared.entry.Cause.TheVariants.{History}
use Rattle.iso_history.specs.declared.entry.Got.{Got}
use Rattle.iso_history.specs.declared.entry.Want.{Want}
use Rattle.iso_modes.specs.declared.Mode.{Mode}
use Rattle.iso_standing.proofs.Between.{IsBare, IsLooked, awaited_of, collapse_of, freed_of, looked-between, says_more, sought_by, steps-bare, told-bare}
use Rattle.iso_standing.proofs.Fronted.{AreSteps, Unrolled, says_end, steps-fronted, told-fronted}
use Rattle.iso_standing.proofs.Ready.{RollsBack}
use Rattle.iso_types.specs.declared.head.Head.{Head}
use Rattle.iso_types.specs.declared.value.Conn.{Conn}
use Rattle.iso_types.specs.declared.value.Name.TheVariants.{Row, Table}
use Rattle.iso_types.specs.declared.value.Rid.{Rid}
use Rattle.iso_types.specs.declared.value.TableId.{TableId}
use Rattle.iso_types.specs.declared.value.Value.{Value}

-- the table of an escalation that is awaited
abbrev pub awaits_table : Last → Option TableId
awaits_table (Awaits t m) = Some t
awaits_table _ = None

-- the parts of a connection by its doom
abbrev pub FateIs : Option ℕ → List Part → Type 0
FateIs None ps = Unrolled ps
FateIs (Some r) ps = RollsBack r ps

-- where a Free comes next, the last entry looked at its row, and left it Fresh
abbrev pub FreesLooked : World → Conn → List Part → Type 0
FreesLooked w c ps = (t : TableId) (r : Rid) → freed_of ps ≡ Some (t, r) → (w.last c ≡ Looked t r) × (is_fresh_on w c (Row t r) ≡ true)

-- the act goes with what its parts have in front behind it
pub record GoesWith (head : Head) (w : World) (c : Conn) (a : Act) (ps : List Part) : Type 0 where
  pub collapse : option_map (λ d. d.0) (due_of a (w.last c)) ≡ collapse_of ps
  pub awaited : awaits_table (last_of a) ≡ awaited_of ps
  pub frees : FreesLooked (after head w (by_agent c a)) c ps
  pub fate : FateIs (doom_by w.doom (doom_of_agent c a) c) ps

-- a Claim makes the awaited Collapse due
pub claim-due : (l : Last) → option_map (λ d. d.0) (due_of_claim l) ≡ awaits_table l
claim-due (Looked t r) = refl
claim-due (Awaits t m) = refl
claim-due Claimed = refl
claim-due Other = refl

-- a row of a table
abbrev pub row_at : TableId → Rid → Option (TableId × Rid)
row_at t r = Some (t, r)

pub unfreed : (w : World) (c : Conn) (ps : List Part) → freed_of ps ≡ None → FreesLooked w c ps
unfreed w c ps n t r e = absurd (never (sym n ∙ e))
  where
    never : None ≡ row_at t r → ⊥
    never q = cc

one-row : (t u : TableId) (r s : Rid) → row_at t r ≡ row_at u s → (t ≡ u) × (r ≡ s)
one-row t u r s e = (ap (λ o. option_map_or (λ q. q.0) o t) e, ap (λ o. option_map_or (λ q. q.1) o r) e)

module _ (head : Head) (w : World) (c : Conn) where
  -- the entry that is made and goes on is that of the step
  pub act-made : (p : Point) (a : Act) → made head w c p ≡ a → ends a ≡ false → act_of head w c (row_due p) (rows_due p) (due p) ≡ a
  act-made p a m e = go (is_full head w (by_agent c (act_of head w c (row_due p) (rows_due p) (due p)))) m
    where
      go : (b : Bool) → (if b then Stopped History else act_of head w c (row_due p) (rows_due p) (due p)) ≡ a
          → act_of head w c (row_due p) (rows_due p) (due p) ≡ a
      go true k = absurd (never (subst (λ x. ends x ≡ false) (sym k) e))
        where
          never : true ≡ false → ⊥
          never q = cc
      go false k = k

  -- the row at which a look looks
  limit-no-look : (t : TableId) (r : Rid) (want : Want) (got : Got) → at_limit head w c ≡ Look t r want got → ⊥
  limit-no-look t r want got e = go (escalation head w c) e
    where
      one : (q : TableId × Mode) (o : Outcome) → escalated_by q.0 q.1 o ≡ Look t r want got → ⊥
      one q (Gives g) k = cc
      one q Limit k = cc

      go : (o : Option (TableId × Mode)) → limited_by head w c o ≡ Look t r want got → ⊥
      go None k = cc
      go (Some q) k = one q (request head w c (Table q.0) q.1) k

  look-is : (t u : TableId) (r s : Rid) (want other : Want) (got : Got) → look_act head w c u s other ≡ Look t r want got → (u ≡ t) × (s ≡ r)
  look-is t u r s want other got e = go (nat_lt s.0 (slots w u)) e
    where
      by : (o : Outcome) → look_by head w c u s other o ≡ Look t r want got → (u ≡ t) × (s ≡ r)
      by (Gives g) k = (cc, cc)
      by Limit k = absurd (limit-no-look t r want got k)

      go : (b : Bool) → (if b then look_by head w c u s other (look head w c u s other) else ScanEnd u (slots w u)) ≡ Look t r want got
          → (u ≡ t) × (s ≡ r)
      go true k = by (look head w c u s other) k
      go false k = absurd (never k)
        where
          never : ScanEnd u (slots w u) ≡ Look t r want got → ⊥
          never q = cc

  same-row : (t u : TableId) (r s : Rid) → (u ≡ t) × (s ≡ r) → row_at u s ≡ row_at t r
  same-row t u r s e = ap (λ z. row_at z s) e.0 ∙ ap (row_at t) e.1

  pub sought-is : (kept : Haul) (ps : List Part) (told : Option (List Value)) (fresh : Bool) (t : TableId) (r : Rid) (want : Want) (got : Got)
      → answers (due_by kept ps) (Told.Shown told fresh) ≡ true
      → act_of head w c (row_by ps) (rows_by kept ps) (due_by kept ps) ≡ Look t r want got → sought_by ps ≡ Some (t, r)
  sought-is kept [] told fresh t r want got a e = absurd (cc)
  sought-is kept (TableScan u other s ∷ ps) told fresh t r want got a e =
      same-row t u r (record { 0 = s }) (look-is t u r (record { 0 = s }) want other got e)
  sought-is kept (EntryLook k key s ∷ ps) told fresh t r want got a e = same-row t k.table r s (look-is t k.table r s want k.want got e)
  sought-is kept (x ∷ ps) told fresh t r want got a e = absurd (cc)

  module _ (spared : w.doom c ≡ None) where
    -- an act that leaves nothing in front
    pub bare-goes : (a : Act) (ps : List Part) → due_of a (w.last c) ≡ None → awaits_table (last_of a) ≡ None → doom_of_agent c a ≡ Spares → IsBare ps
        → Unrolled ps → GoesWith head w c a ps
    bare-goes a ps d l s b f = record {
      collapse = ap (option_map (λ q. q.0)) d ∙ sym b.collapse;
      awaited = l ∙ sym b.awaited;
      frees = unfreed (after head w (by_agent c a)) c ps b.freed;
      fate = subst (λ o. FateIs o ps) (sym (ap (λ x. doom_by w.doom x c) s ∙ spared)) f;
    }

    -- a request that timed out
    pub timed-goes : (a : Act) → due_of a (w.last c) ≡ None → awaits_table (last_of a) ≡ None → doom_of_agent c a ≡ Dooms c 68
        → GoesWith head w c a (rolling_list 68)
    timed-goes a d l s = record {
      collapse = ap (option_map (λ q. q.0)) d;
      awaited = l;
      frees = unfreed (after head w (by_agent c a)) c (rolling_list 68) refl;
      fate = subst (λ x. FateIs (doom_by w.doom x c) (rolling_list 68)) (sym s) (rw (eq-same c) (inr refl));
    }

    module _ (p : Point) (h : AreSteps p.left) where
      pub told-goes : (a : Act) (t : Told) → due_of a (w.last c) ≡ None → awaits_table (last_of a) ≡ None → doom_of_agent c a ≡ Spares
          → says_more t ≡ false → says_end t ≡ false → GoesWith head w c a (told_point p t).left
      told-goes a t d l s m e = bare-goes a (told_point p t).left d l s (told-bare p t m h) (inl (told-fronted p t e h))

      pub silent-goes : (a : Act) → due_of a (w.last c) ≡ None → awaits_table (last_of a) ≡ None → doom_of_agent c a ≡ Spares
          → GoesWith head w c a p.left
      silent-goes a d l s = bare-goes a p.left d l s (steps-bare p.left h) (inl (steps-fronted p.left h))

      pub looked-goes : (t : TableId) (r : Rid) (want : Want) → sought_by p.left ≡ Some (t, r)
          → GoesWith head w c (Look t r want Got.Granted)
          (told_point p (Told.Shown (shown w c t r want) (is_fresh_on (after head w (by_agent c (Look t r want Got.Granted))) c (Row t r)))).left
      looked-goes t r want sought = record {
        collapse = sym seen.collapse;
        awaited = sym seen.awaited;
        frees = freed seen.freed;
        fate = subst (λ o. FateIs o qs) (sym spared) (inl (told-fronted p told refl h));
      }
        where
          v : World
          v = after head w (by_agent c (Look t r want Got.Granted))

          told : Told
          told = Told.Shown (shown w c t r want) (is_fresh_on v c (Row t r))

          qs : List Part
          qs = (told_point p told).left

          seen : IsLooked (is_fresh_on v c (Row t r)) p.left qs
          seen = looked-between p (shown w c t r want) (is_fresh_on v c (Row t r)) h

          freed : (freed_of qs ≡ None) ⊎ ((is_fresh_on v c (Row t r) ≡ true) × (freed_of qs ≡ sought_by p.left)) → FreesLooked v c qs
          freed (inl n) u s e = unfreed v c qs n u s e
          freed (inr y) u s e =
              let same = one-row t u r s (sym (y.1 ∙ sought) ∙ e) in
              subst (λ z. (v.last c ≡ Looked z s) × (is_fresh_on v c (Row z s) ≡ true)) same.0
              (subst (λ z. (v.last c ≡ Looked t z) × (is_fresh_on v c (Row t z) ≡ true)) same.1 (rw (eq-same c) refl, y.0))
