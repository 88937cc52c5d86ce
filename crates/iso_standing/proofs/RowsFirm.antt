-- A row that was read before the last own entry stays, even where its connection frees a row.
use Rattle.std.proofs.Common.{List, [], ◌∷◌, ◌≡◌, ◌⊎◌, inl, inr, Bool, true, false, ◌&&◌, refl, ap, sym, ◌∙◌, Some}
use Rattle.iso_conduct.proofs.Open.{eq-same}
use Rattle.iso_conduct.specs.Conduct.{is_by}
use Rattle.iso_history.proofs.pending.Conns.{and-both, no-both, rid-same, table-same}
use Rattle.iso_history.proofs.pending.Reading.{Reading, fresh, kept, reading-after, tabled}
use Rattle.iso_history.specs.After.{after}
use Rattle.iso_history.specs.Facts.{IsSound, keeps_mode}
use Rattle.iso_history.specs.Guards.{ends_unit, is_end, is_free_at, is_freed}
use Rattle.iso_history.specs.Legal.{Allowed}
use Rattle.iso_history.specs.Makers.{by_agent}
use Rattle.iso_history.specs.Versions.{present}
use Rattle.iso_history.specs.World.{World}
use Rattle.iso_history.specs.declared.entry.Act.{Act}
use Rattle.iso_history.specs.declared.entry.Act.TheVariants.{Free}
use Rattle.iso_history.specs.declared.entry.Entry.{Entry}
use Rattle.iso_history.specs.declared.entry.Who.{Who}
use Rattle.iso_history.specs.declared.entry.Who.TheVariants.{Agent, Dispatcher}
use Rattle.iso_modes.specs.declared.Mode.TheVariants.{Ns, S}
use Rattle.iso_queue.specs.Locks.{holds_at_least}
use Rattle.iso_standing.proofs.RowsSeen.{LeavesRow, Sees, left-by}
use Rattle.iso_types.specs.Ids.{conn_eq}
use Rattle.iso_types.specs.declared.head.Head.{Head}
use Rattle.iso_types.specs.declared.value.Conn.{Conn}
use Rattle.iso_types.specs.declared.value.Name.TheVariants.{Row, Table}
use Rattle.iso_types.specs.declared.value.Rid.{Rid}
use Rattle.iso_types.specs.declared.value.TableId.{TableId}
use Rattle.iso_types.specs.declared.value.Value.{Value}

-- the connection keeps NS or more on the row, or has S or more on its table
abbrev pub Firm : World → Conn → TableId → Rid → Type 0
Firm w c t r = (holds_at_least w.holds c (Table t) S ≡ true) ⊎ (keeps_mode w.holds c (Row t r) Ns ≡ true)

-- a slot shows one row
pub seen-once : (w : World) (c : Conn) (t : TableId) (r : Rid) (a b : List Value) → Sees w c t r a → Sees w c t r b → a ≡ b
seen-once w c t r a b p q = same (sym p.1 ∙ q.1)
  where
    same : Some a ≡ Some b → a ≡ b
    same e = cc

firm-reading : (w : World) (c : Conn) (t : TableId) (r : Rid) (es : List Entry) → Firm w c t r → Reading w c t r es
firm-reading w c t r es (inl e) = tabled e
firm-reading w c t r es (inr e) = kept e

module _ (c : Conn) (t : TableId) (r : Rid) where
  -- the entry that frees the row
  abbrev freeing : List Entry
  freeing = by_agent c (Free t r) ∷ []

  frees-it : is_freed c t r freeing ≡ true
  frees-it = rw (eq-same c) (and-both _ _ (table-same t) (rid-same r))

  reading-firm : (w : World) → Reading w c t r freeing → Firm w c t r
  reading-firm w (tabled e) = inl e
  reading-firm w (kept e) = inr e
  reading-firm w (fresh l h q b m f) = absurd (no-both frees-it f)

module _ (head : Head) (w : World) (s : IsSound head w) (c : Conn) where
  -- what is firm stays so until the unit ends
  firm-after : (e : Entry) → Allowed head w e → ends_unit c e ≡ false → (t : TableId) (r : Rid) → Firm w c t r → Firm (after head w e) c t r
  firm-after e al nil t r f = reading-firm c t r (after head w e)
      (reading-after head w s e al c t r (freeing c t r) nil (firm-reading w c t r (e ∷ freeing c t r) f))

  pub firm-other : (e : Entry) → Allowed head w e → is_by c e.who ≡ false → (t : TableId) (r : Rid) → Firm w c t r → Firm (after head w e) c t r
  firm-other e al other t r f = go e.who e.act al other
    where
      go : (who : Who) (a : Act) → Allowed head w (record { who = who; act = a }) → is_by c who ≡ false
          → Firm (after head w (record { who = who; act = a })) c t r
      go Dispatcher a al o = firm-after (record { who = Dispatcher; act = a }) al refl t r f
      go (Agent d) a al o = firm-after (record { who = Agent d; act = a }) al (rw o refl) t r f

  module _ (a : Act) (al : Allowed head w (by_agent c a)) (goes : is_end a ≡ false) where
    no-end : ends_unit c (by_agent c a) ≡ false
    no-end = never (conn_eq c c) (is_end a) goes
      where
        never : (x y : Bool) → y ≡ false → (x && y) ≡ false
        never true y e = e
        never false y e = refl

    pub firm-own : (t : TableId) (r : Rid) → Firm w c t r → Firm (after head w (by_agent c a)) c t r
    firm-own t r f = firm-after (by_agent c a) al no-end t r f

    -- a firm row is seen on, even where one is freed
    pub firm-seen : (t : TableId) (r : Rid) (row : List Value) → LeavesRow head w s c t r a → Firm w c t r → Sees w c t r row
        → Sees (after head w (by_agent c a)) c t r row
    firm-seen t r row leaves f h = (
      firm-reading (after head w (by_agent c a)) c t r [] (firm-own t r f),
      ap present (left-by head w s c t r a leaves) ∙ h.1,
    )

    -- what is seen is firm after one more entry that does not free it
    pub seen-firm : (t : TableId) (r : Rid) (row : List Value) → is_free_at t r a ≡ false → Sees w c t r row → Firm (after head w (by_agent c a)) c t r
    seen-firm t r row free h = reading-firm c t r (after head w (by_agent c a))
        (reading-after head w s (by_agent c a) al c t r (freeing c t r) no-end (further h.0))
      where
        freed : is_freed c t r (by_agent c a ∷ freeing c t r) ≡ false
        freed = rw (eq-same c) free

        further : Reading w c t r [] → Reading w c t r (by_agent c a ∷ freeing c t r)
        further (tabled k) = tabled k
        further (kept k) = kept k
        further (fresh l x q b m f) = fresh l x q b m freed
