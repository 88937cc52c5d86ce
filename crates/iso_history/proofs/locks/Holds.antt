-- What each change of the holds leaves on a name.
use Rattle.std.proofs.Common.{◌≡◌, ◌≤◌, Bool, true, false, not, ◌&&◌, if◌then◌else◌, List, [], ◌∷◌, refl, ap, sym, ◌∙◌, arith, Some, None, Option, option_map, count_by}
use Rattle.std.specs.Option.{option_map_or}
use Rattle.std.proofs.lemmas.Bool.{and_parts}
use Rattle.iso_history.proofs.locks.Finds.{count-here, count-map, count-past, find-here, find-map, find-past}
use Rattle.iso_history.proofs.locks.Same.{conn_is, conn_same, name_is, name_same}
use Rattle.iso_modes.specs.Modes.{joined}
use Rattle.iso_modes.specs.Terms.{is_fresh, is_kept}
use Rattle.iso_modes.specs.declared.Mode.{Mode}
use Rattle.iso_modes.specs.declared.Term.{Term}
use Rattle.iso_modes.specs.declared.Term.TheVariants.{Kept}
use Rattle.iso_queue.specs.Locks.{Hold, Request, added, held, hold_on, is_hold_of, is_spared, raised, settled, settled_one, target}
use Rattle.iso_types.specs.Ids.{conn_eq, name_eq}
use Rattle.iso_types.specs.declared.value.Conn.{Conn}
use Rattle.iso_types.specs.declared.value.Name.{Name}

pub of-is : (c : Conn) (n : Name) (h : Hold) → is_hold_of c n h ≡ true → (h.conn ≡ c) × (h.name ≡ n)
unfolding is_hold_of
of-is c n h e = let p = and_parts _ _ e in (conn_is h.conn c p.0, name_is h.name n p.1)

pub of-self : (h : Hold) → is_hold_of h.conn h.name h ≡ true
unfolding is_hold_of
of-self h = rw (conn_same h.conn, name_same h.name) refl

of-apart : (c d : Conn) (n k : Name) (h : Hold) → (conn_eq c d && name_eq n k) ≡ false → is_hold_of c n h ≡ true → is_hold_of d k h ≡ false
unfolding is_hold_of
of-apart c d n k h a e = let p = of-is c n h e in rw (p.0, p.1) a

of-raised : (d : Conn) (k : Name) (m : Mode) (t : Term) (h : Hold) → is_hold_of d k (raised m t h) ≡ is_hold_of d k h
unfolding is_hold_of
of-raised d k m t h = refl

-- a term that settles
abbrev kept_if : Bool → Hold → Hold
kept_if b h = if b then record h { term = Kept } else h

of-kept : (b : Bool) (d : Conn) (k : Name) (h : Hold) → is_hold_of d k (kept_if b h) ≡ is_hold_of d k h
unfolding is_hold_of
of-kept true d k h = refl
of-kept false d k h = refl

mode-kept : (b : Bool) (h : Hold) → (kept_if b h).mode ≡ h.mode
mode-kept true h = refl
mode-kept false h = refl

kept-kept : (b : Bool) (h : Hold) → is_kept h.term ≡ true → is_kept (kept_if b h).term ≡ true
kept-kept true h e = refl
kept-kept false h e = e

module _ (c : Conn) (spare : Option Name) where
  abbrev settles : Hold → Bool
  settles h = conn_eq h.conn c && (is_fresh h.term && not (is_spared spare h))

  of-settled : (d : Conn) (k : Name) (h : Hold) → is_hold_of d k (settled_one c spare h) ≡ is_hold_of d k h
  of-settled d k h = of-kept (settles h) d k h

  pub mode-settled : (h : Hold) → (settled_one c spare h).mode ≡ h.mode
  mode-settled h = mode-kept (settles h) h

  pub kept-settled : (h : Hold) → is_kept h.term ≡ true → is_kept (settled_one c spare h).term ≡ true
  kept-settled h e = kept-kept (settles h) h e

  pub hold_on-settled : (hs : List Hold) (d : Conn) (k : Name) → hold_on (settled c spare hs) d k ≡ option_map (settled_one c spare) (hold_on hs d k)
  hold_on-settled hs d k = find-map (is_hold_of d k) (settled_one c spare) (of-settled d k) hs

  pub count-settled : (hs : List Hold) (d : Conn) (k : Name) → count_by (is_hold_of d k) (settled c spare hs) ≡ count_by (is_hold_of d k) hs
  count-settled hs d k = count-map (is_hold_of d k) (settled_one c spare) (of-settled d k) hs

  modes-settled : (x : Option Hold) → option_map (λ h. h.mode) (option_map (settled_one c spare) x) ≡ option_map (λ h. h.mode) x
  modes-settled None = refl
  modes-settled (Some h) = ap Some (mode-settled h)

  pub held-settled : (hs : List Hold) (d : Conn) (k : Name) → held (settled c spare hs) d k ≡ held hs d k
  held-settled hs d k = ap (option_map (λ (h : Hold). h.mode)) (hold_on-settled hs d k) ∙ modes-settled (hold_on hs d k)

module _ (c : Conn) (r : Request) where
  -- the new hold
  abbrev pub asked : Hold
  asked = record { name = r.name; conn = c; mode = r.mode; term = r.term }

  -- the hold that it makes of what was held
  abbrev pub granted : Option Hold → Hold
  granted x = option_map_or (raised r.mode r.term) x asked

  added-here : (h : Hold) (hs : List Hold) → is_hold_of c r.name h ≡ true → added (h ∷ hs) c r ≡ raised r.mode r.term h ∷ hs
  added-here h hs e = rw e refl

  added-past : (h : Hold) (hs : List Hold) → is_hold_of c r.name h ≡ false → added (h ∷ hs) c r ≡ h ∷ added hs c r
  added-past h hs e = rw e refl

  pub hold_on-own : (hs : List Hold) → hold_on (added hs c r) c r.name ≡ Some (granted (hold_on hs c r.name))
  hold_on-own [] = find-here (is_hold_of c r.name) asked [] (of-self asked)
  hold_on-own (h ∷ hs) = go (is_hold_of c r.name h) refl (hold_on-own hs)
    where
      go : (b : Bool) → is_hold_of c r.name h ≡ b → hold_on (added hs c r) c r.name ≡ Some (granted (hold_on hs c r.name))
          → hold_on (added (h ∷ hs) c r) c r.name ≡ Some (granted (hold_on (h ∷ hs) c r.name))
      go true e ih =
          ap (λ (xs : List Hold). hold_on xs c r.name) (added-here h hs e)
          ∙ find-here (is_hold_of c r.name) (raised r.mode r.term h) hs (of-raised c r.name r.mode r.term h ∙ e)
          ∙ ap (λ (x : Option Hold). Some (granted x)) (sym (find-here (is_hold_of c r.name) h hs e))
      go false e ih =
          ap (λ (xs : List Hold). hold_on xs c r.name) (added-past h hs e)
          ∙ find-past (is_hold_of c r.name) h (added hs c r) e
          ∙ ih
          ∙ ap (λ (x : Option Hold). Some (granted x)) (sym (find-past (is_hold_of c r.name) h hs e))

  pub hold_on-other : (d : Conn) (k : Name) → (conn_eq c d && name_eq r.name k) ≡ false → (hs : List Hold) → hold_on (added hs c r) d k ≡ hold_on hs d k
  hold_on-other d k a [] = find-past (is_hold_of d k) asked [] (of-apart c d r.name k asked a (of-self asked))
  hold_on-other d k a (h ∷ hs) = go (is_hold_of c r.name h) refl (is_hold_of d k h) refl (hold_on-other d k a hs)
    where
      go : (b : Bool) → is_hold_of c r.name h ≡ b → (f : Bool) → is_hold_of d k h ≡ f → hold_on (added hs c r) d k ≡ hold_on hs d k
          → hold_on (added (h ∷ hs) c r) d k ≡ hold_on (h ∷ hs) d k
      go true e f g ih =
          let past : is_hold_of d k h ≡ false = of-apart c d r.name k h a e in
          ap (λ (xs : List Hold). hold_on xs d k) (added-here h hs e)
          ∙ find-past (is_hold_of d k) (raised r.mode r.term h) hs (of-raised d k r.mode r.term h ∙ past)
          ∙ sym (find-past (is_hold_of d k) h hs past)
      go false e true g ih =
          ap (λ (xs : List Hold). hold_on xs d k) (added-past h hs e)
          ∙ find-here (is_hold_of d k) h (added hs c r) g
          ∙ sym (find-here (is_hold_of d k) h hs g)
      go false e false g ih =
          ap (λ (xs : List Hold). hold_on xs d k) (added-past h hs e)
          ∙ find-past (is_hold_of d k) h (added hs c r) g
          ∙ ih
          ∙ sym (find-past (is_hold_of d k) h hs g)

  pub count-own : (hs : List Hold) → count_by (is_hold_of c r.name) hs ≤ 1 → count_by (is_hold_of c r.name) (added hs c r) ≤ 1
  count-own [] one = omega (arith, count-here (is_hold_of c r.name) asked [] (of-self asked))
  count-own (h ∷ hs) one = go (is_hold_of c r.name h) refl (count-own hs)
    where
      go : (b : Bool) → is_hold_of c r.name h ≡ b → (count_by (is_hold_of c r.name) hs ≤ 1 → count_by (is_hold_of c r.name) (added hs c r) ≤ 1)
          → count_by (is_hold_of c r.name) (added (h ∷ hs) c r) ≤ 1
      go true e ih =
          rw (added-here h hs e, count-here (is_hold_of c r.name) (raised r.mode r.term h) hs (of-raised c r.name r.mode r.term h ∙ e))
          (omega (arith, count-here (is_hold_of c r.name) h hs e))
      go false e ih =
          let few : count_by (is_hold_of c r.name) (added hs c r) ≤ 1 = ih (omega (arith, count-past (is_hold_of c r.name) h hs e)) in
          rw (added-past h hs e, count-past (is_hold_of c r.name) h (added hs c r) e) few

  pub count-other : (d : Conn) (k : Name) → (conn_eq c d && name_eq r.name k) ≡ false → (hs : List Hold)
      → count_by (is_hold_of d k) (added hs c r) ≡ count_by (is_hold_of d k) hs
  count-other d k a [] = count-past (is_hold_of d k) asked [] (of-apart c d r.name k asked a (of-self asked))
  count-other d k a (h ∷ hs) = go (is_hold_of c r.name h) refl (is_hold_of d k h) refl (count-other d k a hs)
    where
      go : (b : Bool) → is_hold_of c r.name h ≡ b → (f : Bool) → is_hold_of d k h ≡ f → count_by (is_hold_of d k) (added hs c r) ≡ count_by (is_hold_of d k) hs
          → count_by (is_hold_of d k) (added (h ∷ hs) c r) ≡ count_by (is_hold_of d k) (h ∷ hs)
      go true e f g ih =
          let past : is_hold_of d k h ≡ false = of-apart c d r.name k h a e in
          rw (added-here h hs e, count-past (is_hold_of d k) (raised r.mode r.term h) hs (of-raised d k r.mode r.term h ∙ past))
          (sym (count-past (is_hold_of d k) h hs past))
      go false e true g ih = rw (added-past h hs e, count-here (is_hold_of d k) h (added hs c r) g, count-here (is_hold_of d k) h hs g, ih) refl
      go false e false g ih = rw (added-past h hs e, count-past (is_hold_of d k) h (added hs c r) g, count-past (is_hold_of d k) h hs g, ih) refl

  modes-granted : (x : Option Hold) → (granted x).mode ≡ option_map_or (λ h. joined h r.mode) (option_map (λ h. h.mode) x) r.mode
  modes-granted None = refl
  modes-granted (Some h) = refl

  pub held-own : (hs : List Hold) → held (added hs c r) c r.name ≡ Some (target hs c r.name r.mode)
  held-own hs = ap (option_map (λ (h : Hold). h.mode)) (hold_on-own hs) ∙ ap Some (modes-granted (hold_on hs c r.name))

  pub held-other : (d : Conn) (k : Name) → (conn_eq c d && name_eq r.name k) ≡ false → (hs : List Hold) → held (added hs c r) d k ≡ held hs d k
  held-other d k a hs = ap (option_map (λ (h : Hold). h.mode)) (hold_on-other d k a hs)
