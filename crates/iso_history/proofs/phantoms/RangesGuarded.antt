-- G5 of a whole history.
use Rattle.std.proofs.Common.{◌≡◌, ◌∙◌, ◌+◌, ℕ, zero, suc, Bool, true, false, ◌&&◌, List, [], ◌∷◌, ◌++◌, take, drop, refl, ap, sym, subst, Some, None, Option}
use Rattle.std.specs.List.{list_any}
use Rattle.std.specs.Prelude.{IsTrue}
use Rattle.iso_history.proofs.phantoms.Tests.{both}
use Rattle.iso_history.proofs.phantoms.GapStarts.{orderly-start}
use Rattle.iso_history.proofs.phantoms.RangeAfter.{orderly-after}
use Rattle.iso_history.proofs.phantoms.ScanStays.{ranges-stay}
use Rattle.iso_history.specs.After.{after, start, world, world_from}
use Rattle.iso_history.specs.Entries.{is_in_range}
use Rattle.iso_history.specs.Facts.{IsSound}
use Rattle.iso_history.specs.Gaps.{IsOrderly, is_plain}
use Rattle.iso_history.specs.Guards.{RangeStays, RangesGuarded, has_protected, is_passed, is_protected, is_watched, world_at}
use Rattle.iso_history.specs.Legal.{Allowed, GroundFrom}
use Rattle.iso_history.specs.Scans.{AreScanned, ScansGuarded, SoundRun, are_plain}
use Rattle.iso_history.specs.Versions.{versions}
use Rattle.iso_history.specs.World.{Version, World}
use Rattle.iso_history.specs.declared.entry.Entry.{Entry}
use Rattle.iso_history.specs.declared.entry.Stand.{Stand}
use Rattle.iso_history.specs.declared.entry.Stand.TheVariants.{At, Past}
use Rattle.iso_types.specs.Head.{key_in}
use Rattle.iso_types.specs.declared.head.Head.{Head}
use Rattle.iso_types.specs.declared.head.Range.{Range}
use Rattle.iso_types.specs.declared.value.Conn.{Conn}
use Rattle.iso_types.specs.declared.value.IndexId.{IndexId}
use Rattle.iso_types.specs.declared.value.Rid.{Rid}
use Rattle.iso_types.specs.declared.value.TableId.{TableId}
use Rattle.iso_types.specs.declared.value.Value.{Value}

pub take-drop : {A : Type 0} (k : ℕ) (xs : List A) → take k xs ++ drop k xs ≡ xs
take-drop zero xs = refl
take-drop (suc k) [] = refl
take-drop (suc k) (x ∷ xs) = ap (λ (l : List _). x ∷ l) (take-drop k xs)

module _ (head : Head) where
  world-append : (w : World) (xs ys : List Entry) → world_from head w (xs ++ ys) ≡ world_from head (world_from head w xs) ys
  unfolding world_from
  world-append w [] ys = refl
  world-append w (x ∷ xs) ys = world-append (after head w x) xs ys

  -- a run in two parts
  pub run-split : (w : World) (xs ys : List Entry) → SoundRun head w (xs ++ ys) → SoundRun head w xs × SoundRun head (world_from head w xs) ys
  unfolding SoundRun world_from
  run-split w [] [] run = (run, run)
  run-split w [] (y ∷ ys) run = (run.0, run)
  run-split w (x ∷ xs) ys run = let r = run-split (after head w x) xs ys run.3 in ((run.0, run.1, run.2, r.0), r.1)

  pub run-orderly : (w : World) (es : List Entry) → SoundRun head w es → IsOrderly w → IsOrderly (world_from head w es)
  unfolding SoundRun world_from
  run-orderly w [] run o = o
  run-orderly w (e ∷ es) run o = run-orderly (after head w e) es run.3 (orderly-after head w e run.1 run.2 o)

  -- a fact from which soundness follows, and that each entry keeps beside the orderly ones, gives a sound run
  pub run-along : (P : World → Type 0) → ((w : World) → P w → IsSound head w)
      → ((w : World) (e : Entry) → Allowed head w e → is_plain e.act ≡ true → IsOrderly w → P w → P (after head w e))
      → (w : World) (es : List Entry) → P w → IsOrderly w → GroundFrom head w es → are_plain es ≡ true → SoundRun head w es
  unfolding SoundRun GroundFrom
  run-along P sound step w [] p o g pl = sound w p
  run-along P sound step w (e ∷ es) p o g pl =
      let b = both (is_plain e.act) (are_plain es) pl in
      (sound w p, g.0, b.0, run-along P sound step (after head w e) es (step w e g.0 b.0 o p) (orderly-after head w e g.0 b.0 o) g.1 b.1)

  -- G5, told of places
  pub scans-guarded : (es : List Entry) → SoundRun head (start head) es → ScansGuarded head es
  unfolding world
  scans-guarded es run j k c i t range place stand on goes has =
      let parts = run-split (start head) (take k es) (drop k es) (subst (λ (l : List Entry). SoundRun head (start head) l) (sym (take-drop k es)) run) in
      let f : take j (take k es) ++ drop j (take k es) ≡ take k es = take-drop j (take k es) in
      let front = run-split (start head) (take j (take k es)) (drop j (take k es)) (subst (λ (l : List Entry). SoundRun head (start head) l) (sym f) parts.0) in
      let m : world_from head (world_from head (start head) (take j (take k es))) (drop j (take k es)) ≡ world_from head (start head) (take k es) =
      sym (world-append (start head) (take j (take k es)) (drop j (take k es))) ∙ ap (λ (l : List Entry). world_from head (start head) l) f in
      subst (λ (x : World). RangeStays head x c t i range stand (drop k es)) m
      (ranges-stay head c i t on range (world_from head (start head) (take j (take k es))) (drop j (take k es)) (drop k es) place stand front.1
      (subst (λ (x : World). SoundRun head x (drop k es)) (sym m) parts.1)
      (run-orderly (start head) (take j (take k es)) front.0 (orderly-start head)) goes has)

  -- a Next that does not stand has passed nothing
  none-any : {A : Type 0} (p : A → Bool) → ((x : A) → p x ≡ false) → (xs : List A) → list_any p xs ≡ false
  none-any p f [] = refl
  none-any p f (x ∷ xs) = rw (f x) (none-any p f xs)

  unpassed : (stand : Stand) → ((q : Value × Rid) → is_passed stand q ≡ false) → (i : IndexId) (range : Range) (s : Rid) (v : Version)
      → is_protected head i range stand s v ≡ false
  unpassed stand f i range s v = go v.row refl
    where
      off : (a b : Bool) → b ≡ false → (a && b) ≡ false
      off true b e = e
      off false b e = refl

      go : (o : Option (List Value)) → v.row ≡ o → is_protected head i range stand s v ≡ false
      go None e = rw e refl
      go (Some row) e = rw e (off (is_in_range range (key_in head i row)) (is_passed stand (key_in head i row, s)) (f (key_in head i row, s)))

  unwatched : (stand : Stand) → ((q : Value × Rid) → is_passed stand q ≡ false)
      → (es : List Entry) (w : World) (c : Conn) (i : IndexId) (t : TableId) (range : Range)
      → RangeStays head w c t i range stand es
  unfolding RangeStays
  unwatched stand f [] w c i t range = tt
  unwatched stand f (e ∷ es) w c i t range =
      (λ others s watched. absurd (nothing s watched), λ goes. unwatched stand f es (after head w e) c i t range)
    where
      nothing : (s : Rid) → IsTrue (is_watched head w (after head w e) t i range stand s) → ⊥
      nothing s watched =
          let a : has_protected head i range stand s (versions w t s) ≡ false = none-any (is_protected head i range stand s) (unpassed stand f i range s)
          (versions w t s) in
          let b : has_protected head i range stand s (versions (after head w e) t s) ≡ false = none-any (is_protected head i range stand s)
          (unpassed stand f i range s) (versions (after head w e) t s) in
          let z : false ≡ true = rw (a, b) at watched in cc

  -- G5, from what conduct has to give
  pub ranges-guarded : (es : List Entry) → SoundRun head (start head) es → AreScanned head es → RangesGuarded head es
  ranges-guarded es run scanned k c i t range at (At v r) stands on =
      let x = scanned k c i t range at (At v r) stands on tt in scans-guarded es run x.0 (k + 1) c i t range x.1 (At v r) on x.2 x.3
  ranges-guarded es run scanned k c i t range at Past stands on =
      let x = scanned k c i t range at Past stands on tt in scans-guarded es run x.0 (k + 1) c i t range x.1 Past on x.2 x.3
  ranges-guarded es run scanned k c i t range at (Stand.Queued n) stands on =
      unwatched (Stand.Queued n) (λ q. refl) (drop (k + 1) es) (world_at head es (k + 1)) c i t range
  ranges-guarded es run scanned k c i t range at (Stand.TimedOut n) stands on =
      unwatched (Stand.TimedOut n) (λ q. refl) (drop (k + 1) es) (world_at head es (k + 1)) c i t range
