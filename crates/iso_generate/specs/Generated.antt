-- The script that a seed makes. // this project's own
use Rattle.std.specs.Fmt.{decimal}
use Rattle.std.specs.Prelude.{ℕ, zero, suc, ◌+◌, ◌*◌, ◌%◌, ◌==◌, nat_lt, List, [], ◌∷◌, ◌++◌, codes, if◌then◌else◌}
use Rattle.rand_core.specs.Pcg32Seed.{pcg32_seed}
use Rattle.rand_pcg.specs.Lcg.{Lcg}
use Rattle.rand_pcg.specs.Pcg.{pcg32, pcg32_of_seed}
use Rattle.iso_generate.specs.declared.body.Body.{Body}
use Rattle.iso_generate.specs.declared.body.Deed.{Deed}
use Rattle.iso_generate.specs.declared.body.Deed.TheVariants.{Add, Commit, Count, Delete, Insert, Rollback, Show, ShowAll}

-- the generator of words that a seed makes
abbrev pub seeded : ℕ → Lcg
seeded seed = pcg32_of_seed (pcg32_seed 16 seed)

-- the next word modulo k
unfoldable pub drawn : ℕ → Lcg → ℕ
drawn k g = (pcg32 g).0 % k

-- the generator one word on
unfoldable pub later : Lcg → Lcg
later g = (pcg32 g).1

-- one of the 20 accounts of the head
unfoldable pub account : Lcg → ℕ
account g = 10 + 10 * drawn 20 g

-- any number from 1 to 300, most of them no account yet
unfoldable pub newcomer : Lcg → ℕ
newcomer g = 1 + drawn 300 g

-- an amount
unfoldable pub amount : Lcg → ℕ
amount g = drawn 100 g

-- the statement that a number from 0 to 11 stands for; its own numbers are drawn from left to right
unfoldable pub deed : ℕ → Lcg → Deed
deed k g =
    if nat_lt k 3 then Show (account g)
    else if k == 3 then Count (account g)
    else if k == 4 then ShowAll
    else if nat_lt k 7 then Add (amount g) (account (later g))
    else if k == 7 then Insert (newcomer g) (amount (later g))
    else if k == 8 then Delete (newcomer g)
    else if nat_lt k 11 then Commit
    else Rollback

-- the generator behind its numbers
unfoldable pub behind : Deed → Lcg → Lcg
behind (Show x) g = later g
behind (Count x) g = later g
behind ShowAll g = g
behind (Add z x) g = later (later g)
behind (Insert w z) g = later (later g)
behind (Delete w) g = later g
behind Commit g = g
behind Rollback g = g

-- a body line: three words choose its connection, from A to D, whether it waits for quiet, and its statement
abbrev pub body : Lcg → Body
body g = record {
  conn = drawn 4 g;
  mark = drawn 4 (later g);
  deed = deed (drawn 12 (later (later g))) (later (later (later g)));
}

-- the generator behind the line
abbrev pub body_on : Lcg → Lcg
body_on g = behind (body g).deed (later (later (later g)))

-- the words before a statement's first number
unfoldable pub words_before : Deed → List ℕ
words_before (Show x) = codes "SELECT BAL FROM ACCT WHERE ID = "
words_before (Count x) = codes "SELECT COUNT(*) FROM ACCT WHERE ID BETWEEN "
words_before ShowAll = codes "SELECT ID, BAL FROM ACCT WITH UR"
words_before (Add z x) = codes "UPDATE ACCT SET BAL = BAL + "
words_before (Insert w z) = codes "INSERT INTO ACCT VALUES ("
words_before (Delete w) = codes "DELETE FROM ACCT WHERE ID = "
words_before Commit = codes "COMMIT"
words_before Rollback = codes "ROLLBACK"

-- its numbers, with the words between and behind them
abbrev pub numbers : Deed → List ℕ
numbers (Show x) = decimal x
numbers (Count x) = decimal x ++ codes " AND " ++ decimal (x + 30)
numbers (Add z x) = decimal z ++ codes " WHERE ID = " ++ decimal x
numbers (Insert w z) = decimal w ++ codes ", " ++ decimal z ++ codes ", 'g')"
numbers (Delete w) = decimal w
numbers _ = []

-- the text of a statement
abbrev pub deed_text : Deed → List ℕ
deed_text d = words_before d ++ numbers d

-- `& ` for one line in four
abbrev pub mark_text : ℕ → List ℕ
mark_text f = if f == 0 then codes "& " else []

-- the connection's letter
abbrev pub conn_text : ℕ → List ℕ
conn_text c = if c == 0 then codes "A" else if c == 1 then codes "B" else if c == 2 then codes "C" else codes "D"

-- the text of a line
abbrev pub body_text : Body → List ℕ
body_text b = mark_text b.mark ++ conn_text b.conn ++ codes ": " ++ deed_text b.deed ++ codes "\n"

-- so many lines
abbrev pub lines : ℕ → Lcg → List ℕ
lines zero g = []
lines (suc n) g = body_text (body g) ++ lines n (body_on g)

-- so many accounts, from this number on, ten apart
abbrev pub accounts : ℕ → ℕ → List ℕ
accounts zero id = []
accounts (suc n) id = codes "ROW ACCT (" ++ decimal id ++ codes ", 1000, 'a')\n" ++ accounts n (id + 10)

-- the table and its index
unfoldable pub opening : List ℕ
opening = codes "DB2ISO 1\nTABLE ACCT (ID INTEGER NOT NULL, BAL BIGINT NOT NULL, TAG VARCHAR(8))\nUNIQUE INDEX PK ON ACCT (ID)\n"

-- the connections
unfoldable pub sessions : List ℕ
sessions = codes "CONNECT A CS\nCONNECT B CS\nCONNECT C RS\nCONNECT D RR\nBEGIN\n"

-- the script of a seed with so many body lines
abbrev pub generated : ℕ → ℕ → List ℕ
generated seed count = opening ++ accounts 20 10 ++ sessions ++ lines count (seeded seed) ++ codes "END\n"
