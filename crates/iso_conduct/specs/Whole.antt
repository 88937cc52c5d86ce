-- Every line of a script is answered.
use Rattle.std.specs.List.{list_all, list_any}
use Rattle.std.specs.Prelude.{◌≡◌, ℕ, Bool, true, false, ◌&&◌, ◌||◌, ◌==◌, List, [], ◌∷◌, Option, Some, None, if◌then◌else◌}
use Rattle.iso_conduct.specs.Conduct.{ends, is_by}
use Rattle.iso_conduct.specs.Legal.{IsFinished}
use Rattle.iso_history.specs.After.{world}
use Rattle.iso_history.specs.Quiet.{all_ended}
use Rattle.iso_history.specs.declared.entry.Act.{Act}
use Rattle.iso_history.specs.declared.entry.Act.TheVariants.{Busy, Commit, Dispatch, Expire, Reply, Rollback, Snapshot}
use Rattle.iso_history.specs.declared.entry.Entry.{Entry}
use Rattle.iso_history.specs.declared.entry.Who.{Who}
use Rattle.iso_history.specs.declared.entry.Who.TheVariants.{Dispatcher}
use Rattle.iso_script.specs.declared.script.Line.{Line}
use Rattle.iso_script.specs.declared.script.Script.{Script}
use Rattle.iso_script.specs.declared.script.What.{What}
use Rattle.iso_types.specs.Ids.{conn_eq}
use Rattle.iso_types.specs.declared.value.Conn.{Conn}

-- the entry that ends a statement answers it
abbrev pub answers : Act → Bool
answers (Reply code changed rows) = true
answers Commit = true
answers (Rollback code reason) = true
answers _ = false

-- the connection's first entry here that ends a statement answers it
abbrev pub is_answered : Conn → List Entry → Bool
is_answered c [] = false
is_answered c (e ∷ es) = if is_by c e.who && ends e.act then answers e.act else is_answered c es

-- the act dispatches this line to this connection
abbrev pub dispatches : ℕ → Conn → Who → Act → Bool
dispatches n c Dispatcher (Dispatch line d) = (n == line) && conn_eq c d
dispatches n c _ _ = false

-- the act answers this line of this connection Busy
abbrev pub refuses : ℕ → Conn → Who → Act → Bool
refuses n c Dispatcher (Busy line d) = (n == line) && conn_eq c d
refuses n c _ _ = false

-- a statement line: it is answered Busy, or dispatched and then answered
abbrev pub is_done : ℕ → Conn → List Entry → Bool
is_done n c [] = false
is_done n c (e ∷ es) = (refuses n c e.who e.act || (dispatches n c e.who e.act && is_answered c es)) || is_done n c es

-- the act is the Expire of this line and connection
abbrev pub expires : ℕ → Conn → Who → Act → Bool
expires n c Dispatcher (Expire line d ended) = (n == line) && conn_eq c d
expires n c _ _ = false

-- the act is the Snapshot of this line
abbrev pub lists : ℕ → Who → Act → Bool
lists n Dispatcher (Snapshot line locks) = n == line
lists n _ _ = false

-- what a line asks for is done
abbrev pub is_met : ℕ → What → Option Conn → List Entry → Bool
is_met n (What.Statement s) (Some c) es = is_done n c es
is_met n What.Expire (Some c) es = list_any (λ e. expires n c e.who e.act) es
is_met n What.Snapshot conn es = list_any (λ e. lists n e.who e.act) es
is_met n what None es = false

-- the line is done
abbrev pub is_line_done : List Entry → Line → Bool
is_line_done es l = is_met l.number l.what l.conn es

-- the history ends with Finish and has no Stopped, each line is done, and each connection has ended
pub record IsWhole (script : Script) (es : List Entry) : Type 0 where
  pub finished : IsFinished es
  pub unstopped : (world script.head es).pace.stopped ≡ false
  pub lines : list_all (is_line_done es) script.lines ≡ true
  pub ended : all_ended script.head (world script.head es) ≡ true
