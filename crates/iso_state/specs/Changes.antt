-- What the steps write into the parts.
use Rattle.std.specs.Prelude.{ℕ, false, List, [], ◌∷◌, ◌++◌, slice_set}
use Rattle.iso_types.specs.declared.desk.Desk.{Desk}
use Rattle.iso_types.specs.declared.value.Conn.{Conn}
use Rattle.iso_types.specs.declared.value.Rid.{Rid}
use Rattle.iso_types.specs.declared.value.Value.{Value}
use Rattle.iso_chain.specs.Stands.{Chained}
use Rattle.iso_history.specs.declared.entry.Entry.{Entry}
use Rattle.iso_history.specs.World.{Pace}
use Rattle.iso_locklist.specs.Places.{Ledger}
use Rattle.iso_state.specs.Stands.{Content, desk_at}

-- the content with another lock list
abbrev pub relocked : Content → Ledger → Content
relocked p l = record p { locks = l }

-- with other slots, log and units
abbrev pub rechained : Content → Chained → Content
rechained p k = record p { chain = k }

-- with other entries of the indexes
abbrev pub reentered : Content → List (List (Value × Rid)) → Content
reentered p es = record p { entries = es }

-- with these slots, log and units, this lock list, these desks, this sum of reserves, and one more entry
abbrev pub stepped : Content → Chained → Ledger → List Desk → ℕ → Entry → Content
stepped p k l desks n e = record p { chain = k; locks = l; desks = desks; reserved = n; history = p.history ++ e ∷ [] }

-- with another state of the dispatcher
abbrev pub repaced : Content → Pace → Content
repaced p q = record p { pace = q }

-- one more entry, which no desk tells of
abbrev pub noted : Content → Entry → Content
noted p e = stepped p p.chain p.locks p.desks p.reserved e

-- another desk for the connection, and one more entry
abbrev pub seated : Content → Conn → Desk → Entry → Content
seated p c desk e = stepped p p.chain p.locks (slice_set p.desks c.0 desk) p.reserved e

-- the desk after an own entry that is no claim
abbrev pub unclaimed : Desk → Desk
unclaimed d = record d { claimed = false }

-- one more entry of the connection, which is no claim and changes nothing else of its desk
abbrev pub entered : Content → Conn → Entry → Content
entered p c e = seated p c (unclaimed (desk_at p.desks c)) e
