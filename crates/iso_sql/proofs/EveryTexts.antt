-- The lists of a statement stand in its line.
use Rattle.std.proofs.Common.{◌≡◌, ℕ, List, [], ◌∷◌, ◌++◌, Option, Some, refl, sym, ap, subst, ◌∙◌, ◌⊎◌, inl, inr}
use Rattle.std.proofs.lemmas.List.{append-nil}
use Rattle.iso_types.specs.declared.head.Head.{Head}
use Rattle.iso_grammar.specs.declared.fault.Checked.{Checked}
use Rattle.iso_grammar.specs.declared.fault.Fault.{Fault}
use Rattle.iso_grammar.specs.declared.token.Kind.TheVariants as k
use Rattle.iso_grammar.specs.declared.token.Token.{Token}
use Rattle.iso_grammar.specs.Grammar.{many, optional, token, ◌>>◌}
use Rattle.iso_sql.specs.declared.assignment.Right.{Right}
use Rattle.iso_sql.specs.declared.assignment.Target.{Target}
use Rattle.iso_sql.specs.declared.list.Chosen.{Chosen}
use Rattle.iso_sql.specs.declared.list.Listed.{Listed}
use Rattle.iso_sql.specs.declared.list.Listed.TheVariants as listed
use Rattle.iso_sql.specs.declared.statement.Statement.{Statement}
use Rattle.iso_sql.specs.Actions.{deleted}
use Rattle.iso_grammar.specs.Lex.{tokens}
use Rattle.iso_grammar.proofs.Rising.{rises}
use Rattle.iso_sql.specs.Every.{IsLeastOf, Rise, StandIn, assigned_tokens, each, every_inserted, every_selected, every_updated, item_tokens, right_tokens, row_tokens}
use Rattle.iso_sql.specs.Names.{table_fault, table_names}
use Rattle.iso_sql.specs.Every as ev
use Rattle.iso_sql.specs.Statements as gs
use Rattle.iso_sql.proofs.EverySets.{each-least}
use Rattle.iso_sql.proofs.EveryStatements.{inserted-least, selected-least, updated-least}
use Rattle.iso_sql.proofs.Firsts.{joined-least}
use Rattle.iso_sql.proofs.StandingLaws.{standing-rise, starts-rise}

-- ---- parts of lists

behind : (ys fs bs : List Token) → StandIn ys bs → StandIn ys (fs ++ bs)
behind ys [] bs b = b
behind [] (f ∷ fs) bs b = tt
behind (y ∷ ys) (f ∷ fs) bs b = inr (behind (y ∷ ys) fs bs b)

both : (xs ys fs bs : List Token) → StandIn xs fs → StandIn ys bs → StandIn (xs ++ ys) (fs ++ bs)
both [] ys fs bs a b = behind ys fs bs b
both (x ∷ xs) ys [] bs a b = absurd a
both (x ∷ xs) ys (f ∷ fs) bs (inl s) b = inl (s.0, both xs ys fs bs s.1 b)
both (x ∷ xs) ys (f ∷ fs) bs (inr s) b = inr (both (x ∷ xs) ys fs bs s b)

-- in the front of a list that is split, in its back, and in both
in-both : (xs ys fs bs ts : List Token) → ts ≡ fs ++ bs → StandIn xs fs → StandIn ys bs → StandIn (xs ++ ys) ts
in-both xs ys fs bs ts e a b = subst (λ (z : List Token). StandIn (xs ++ ys) z) (sym e) (both xs ys fs bs a b)

in-back : (ys fs bs ts : List Token) → ts ≡ fs ++ bs → StandIn ys bs → StandIn ys ts
in-back ys fs bs ts e b = subst (λ (z : List Token). StandIn ys z) (sym e) (behind ys fs bs b)

front : (xs fs bs : List Token) → StandIn xs fs → StandIn xs (fs ++ bs)
front [] fs bs a = tt
front (x ∷ xs) [] bs a = absurd a
front (x ∷ xs) (f ∷ fs) bs (inl s) = inl (s.0, front xs fs bs s.1)
front (x ∷ xs) (f ∷ fs) bs (inr s) = inr (front (x ∷ xs) fs bs s)

in-front : (xs fs bs ts : List Token) → ts ≡ fs ++ bs → StandIn xs fs → StandIn xs ts
in-front xs fs bs ts e a = subst (λ (z : List Token). StandIn xs z) (sym e) (front xs fs bs a)

alone : (t : Token) (ts : List Token) → ts ≡ t ∷ [] → StandIn (t ∷ []) ts
alone t ts e = subst (λ (z : List Token). StandIn (t ∷ []) z) (sym e) (inl (refl, tt))

-- ---- lists with commas

stored-in : (ts : List Token) (t : Token) → gs.stored ts t → StandIn (t ∷ []) ts
stored-in ts t (inl w) = alone t ts w.0
stored-in ts t (inr (inl w)) = alone t ts w.0
stored-in ts t (inr (inr (inl w))) = alone t ts w.0
stored-in ts t (inr (inr (inr w))) = alone t ts w.0

item-in : (i : Listed) (ts : List Token) (t : Token) → gs.item i ts t → StandIn (t ∷ []) ts
item-in listed.Column ts t w = alone t ts w.0
item-in listed.Literal ts t w = stored-in ts t w

more-in : (i : Listed) (ts xs : List Token) → many (token k.Comma >> gs.item i) ts xs → StandIn xs ts
more-in i ts [] w = tt
more-in i ts (x ∷ xs) w = in-both (x ∷ []) xs w.0 w.1 ts w.2 (in-back (x ∷ []) w.3.1 w.3.2 w.0 w.3.3 (item-in i w.3.2 x w.3.5)) (more-in i w.1 xs w.4)

pub separated-in : (i : Listed) (ts xs : List Token) → gs.separated i ts xs → StandIn xs ts
separated-in i ts xs w =
    let m = w.5 in
    let s : StandIn (w.0 ∷ m.0) ts = in-both (w.0 ∷ []) m.0 w.1 w.2 ts w.3 (item-in i w.1 w.0 w.4) (in-front m.0 m.1 m.2 w.2 m.3 (more-in i m.1 m.0 m.4)) in
    subst (λ (z : List Token). StandIn z ts) (sym m.5.1) s

-- ---- assignments

integer-in : (ts : List Token) (n : Token) → gs.integer ts n → StandIn (n ∷ []) ts
integer-in ts n (inl w) = alone n ts w.0
integer-in ts n (inr w) = alone n ts w.0

behind-in : (t : Token) (fs ts : List Token) (x : Right) → StandIn (t ∷ []) fs → gs.behind_column t ts x → StandIn (right_tokens x) (fs ++ ts)
behind-in t fs ts x s (inl w) =
    let n = w.5 in
    subst (λ (z : Right). StandIn (right_tokens z) (fs ++ ts)) (sym n.5.1) (both (t ∷ []) (n.0 ∷ []) fs ts s (in-back (n.0 ∷ []) w.1 w.2 ts w.3 (in-front (n.0 ∷ []) n.1 n.2 w.2 n.3 (integer-in n.1 n.0 n.4))))
behind-in t fs ts x s (inr (inl w)) =
    let n = w.5 in
    subst (λ (z : Right). StandIn (right_tokens z) (fs ++ ts)) (sym n.5.1) (both (t ∷ []) (n.0 ∷ []) fs ts s (in-back (n.0 ∷ []) w.1 w.2 ts w.3 (in-front (n.0 ∷ []) n.1 n.2 w.2 n.3 (integer-in n.1 n.0 n.4))))
behind-in t fs ts x s (inr (inr w)) = subst (λ (z : Right). StandIn (right_tokens z) (fs ++ ts)) (sym w.1) (front (t ∷ []) fs ts s)

right-in : (ts : List Token) (x : Right) → gs.column_right ts x ⊎ gs.literal_right ts x → StandIn (right_tokens x) ts
right-in ts x (inl w) = subst (λ (z : List Token). StandIn (right_tokens x) z) (sym w.3) (behind-in w.0 w.1 w.2 x (alone w.0 w.1 w.4.0) w.5)
right-in ts x (inr w) = subst (λ (z : Right). StandIn (right_tokens z) ts) (sym w.5.1) (in-front (w.0 ∷ []) w.1 w.2 ts w.3 (stored-in w.1 w.0 w.4))

assignment-in : (ts : List Token) (a : Target) → gs.assignment ts a → StandIn (a.column ∷ right_tokens a.right) ts
assignment-in ts a w =
    let e = w.5 in
    let x = e.5 in
    let s : StandIn (w.0 ∷ right_tokens x.0) ts =
    in-both (w.0 ∷ []) (right_tokens x.0) w.1 w.2 ts w.3 (alone w.0 w.1 w.4.0) (in-back (right_tokens x.0) e.1 e.2 w.2 e.3 (in-front (right_tokens x.0) x.1 x.2 e.2 x.3 (right-in x.1 x.0 x.4)))
    in
    subst (λ (z : Target). StandIn (z.column ∷ right_tokens z.right) ts) (sym x.5.1) s

targets-in : (ts : List Token) (as' : List Target) → many (token k.Comma >> gs.assignment) ts as' → StandIn (assigned_tokens as') ts
targets-in ts [] w = tt
targets-in ts (a ∷ as') w =
    in-both (a.column ∷ right_tokens a.right) (assigned_tokens as') w.0 w.1 ts w.2 (in-back (a.column ∷ right_tokens a.right) w.3.1 w.3.2 w.0 w.3.3 (assignment-in w.3.2 a w.3.5)) (targets-in w.1 as' w.4)

pub assignments-in : (ts : List Token) (as' : List Target) → gs.assignments ts as' → StandIn (assigned_tokens as') ts
assignments-in ts as' w =
    let m = w.5 in
    let s : StandIn (assigned_tokens (w.0 ∷ m.0)) ts =
    in-both (w.0.column ∷ right_tokens w.0.right) (assigned_tokens m.0) w.1 w.2 ts w.3 (assignment-in w.1 w.0 w.4) (in-front (assigned_tokens m.0) m.1 m.2 w.2 m.3 (targets-in m.1 m.0 m.4))
    in
    subst (λ (z : List Target). StandIn (assigned_tokens z) ts) (sym m.5.1) s

-- ---- statements of a line

rise-in : (line ts : List Token) → StandIn ts line → Rise 0 line → Rise 0 ts
rise-in line ts s r = standing-rise 0 ts line s r

items-in : (ts : List Token) (x : Chosen) → gs.items ts x → StandIn (item_tokens x) ts
items-in ts x (inl w) = subst (λ (z : Chosen). StandIn (item_tokens z) ts) (sym w.5.1) tt
items-in ts x (inr (inl w)) = subst (λ (z : Chosen). StandIn (item_tokens z) ts) (sym w.5.5.5.5.1) tt
items-in ts x (inr (inr w)) = subst (λ (z : Chosen). StandIn (item_tokens z) ts) (sym w.5.1) (in-front w.0 w.1 w.2 ts w.3 (separated-in listed.Column w.1 w.0 w.4))

abbrev IsLeast : Checked Statement × List Fault → Type 0
IsLeast p = IsLeastOf p.0.fault p.1

select-told : (head : Head) (line : List ℕ) (ts : List Token) (p : Checked Statement × List Fault) → Rise 0 ts → ev.select head line ts p → IsLeast p
select-told head line ts p r w =
    let is = w.5 in
    let t = is.5.5 in
    let filter = t.5 in
    let level = filter.5 in
    let s : StandIn (item_tokens is.0) ts = in-back (item_tokens is.0) w.1 w.2 ts w.3 (in-front (item_tokens is.0) is.1 is.2 w.2 is.3 (items-in is.1 is.0 is.4)) in
    subst IsLeast (sym level.5.1) (selected-least head line is.0 t.0 filter.0 level.0 0 (rise-in ts (item_tokens is.0) s r))

update-told : (head : Head) (line : List ℕ) (ts : List Token) (p : Checked Statement × List Fault) → Rise 0 ts → ev.update head line ts p → IsLeast p
update-told head line ts p r w =
    let t = w.5 in
    let set = t.5 in
    let as' = set.5 in
    let filter = as'.5 in
    let level = filter.5 in
    let s : StandIn (assigned_tokens as'.0) ts =
    in-back (assigned_tokens as'.0) w.1 w.2 ts w.3 (in-back (assigned_tokens as'.0) t.1 t.2 w.2 t.3 (in-back (assigned_tokens as'.0) set.1 set.2 t.2 set.3 (in-front (assigned_tokens as'.0) as'.1 as'.2 set.2 as'.3 (assignments-in as'.1 as'.0 as'.4))))
    in
    subst IsLeast (sym level.5.1) (updated-least head line t.0 as'.0 filter.0 level.0 0 (rise-in ts (assigned_tokens as'.0) s r))

row-in : (columns : Option (List Token)) (fs bs vs : List Token) (close : Token) → optional gs.column_list fs columns → StandIn (vs ++ close ∷ []) bs → StandIn (row_tokens columns vs close) (fs ++ bs)
row-in columns fs bs vs close (inl w) s =
    let cs = w.4.5 in
    let c : StandIn cs.0 fs = in-front cs.0 w.1 w.2 fs w.3 (in-back cs.0 w.4.1 w.4.2 w.1 w.4.3 (in-front cs.0 cs.1 cs.2 w.4.2 cs.3 (separated-in listed.Column cs.1 cs.0 cs.4))) in
    let same : w.0 ≡ cs.0 = cs.5.5.1 in
    subst (λ (z : Option (List Token)). StandIn (row_tokens z vs close) (fs ++ bs)) (sym (w.5.1 ∙ ap Some same)) (both cs.0 (vs ++ close ∷ []) fs bs c s)
row-in columns fs bs vs close (inr w) s = subst (λ (z : Option (List Token)). StandIn (row_tokens z vs close) (fs ++ bs)) (sym w.1) (behind (vs ++ close ∷ []) fs bs s)

insert-told : (head : Head) (line : List ℕ) (ts : List Token) (p : Checked Statement × List Fault) → Rise 0 ts → ev.insert head line ts p → IsLeast p
insert-told head line ts p r w =
    let into = w.5 in
    let t = into.5 in
    let cs = t.5 in
    let values = cs.5 in
    let opened = values.5 in
    let vs = opened.5 in
    let close = vs.5 in
    let v : StandIn (vs.0 ++ close.0 ∷ []) opened.2 =
    in-both vs.0 (close.0 ∷ []) vs.1 vs.2 opened.2 vs.3 (separated-in listed.Literal vs.1 vs.0 vs.4) (in-front (close.0 ∷ []) close.1 close.2 vs.2 close.3 (alone close.0 close.1 close.4.0))
    in
    let b : StandIn (vs.0 ++ close.0 ∷ []) cs.2 = in-back (vs.0 ++ close.0 ∷ []) values.1 values.2 cs.2 values.3 (in-back (vs.0 ++ close.0 ∷ []) opened.1 opened.2 values.2 opened.3 v) in
    let row = row_tokens cs.0 vs.0 close.0 in
    let c : StandIn row t.2 = subst (λ (z : List Token). StandIn row z) (sym cs.3) (row-in cs.0 cs.1 cs.2 vs.0 close.0 cs.4 b) in
    let s : StandIn row ts = in-back row w.1 w.2 ts w.3 (in-back row into.1 into.2 w.2 into.3 (in-back row t.1 t.2 into.2 t.3 c)) in
    subst IsLeast (sym close.5.1) (inserted-least head line t.0 cs.0 vs.0 close.0 0 (rise-in ts row s r))

delete-told : (head : Head) (line : List ℕ) (ts : List Token) (p : Checked Statement × List Fault) → ev.delete head line ts p → IsLeast p
unfolding deleted
delete-told head line ts p w =
    let t = w.5.5 in
    let filter = t.5 in
    let table = table_fault (table_names head line t.0) t.0 in
    subst IsLeast (sym filter.5.5.1) (joined-least table filter.0.fault (each table) (each filter.0.fault) (each-least table) (each-least filter.0.fault))

short-told : (head : Head) (line : List ℕ) (ts : List Token) (p : Checked Statement × List Fault) → ev.short head line ts p → IsLeast p
short-told head line ts p w = subst IsLeast (sym w.5.1) (each-least w.0.fault)

-- a statement tells the least of what is wrong with it
told : (head : Head) (line : List ℕ) (ts : List Token) (p : Checked Statement × List Fault) → Rise 0 ts → ev.faulty head line ts p → IsLeast p
told head line ts p r (inl w) = select-told head line ts p r w
told head line ts p r (inr (inl w)) = insert-told head line ts p r w
told head line ts p r (inr (inr (inl w))) = update-told head line ts p r w
told head line ts p r (inr (inr (inr (inl w)))) = delete-told head line ts p w
told head line ts p r (inr (inr (inr (inr w)))) = short-told head line ts p w

pub text-told : (head : Head) (text : List ℕ) (x : Checked Statement) (fs : List Fault) → ev.faulty head text (tokens text) (x, fs) → IsLeastOf x.fault fs
text-told head text x fs w = told head text (tokens text) (x, fs) (starts-rise 0 (tokens text) (rises text)) w

-- ---- each statement with all that is wrong with it

select-has : (head : Head) (line : List ℕ) (ts : List Token) (x : Checked Statement) → gs.select head line ts x → (fs : List Fault) × ev.select head line ts (x, fs)
select-has head line ts x w =
    let w1 = w.5 in
    let w2 = w1.5 in
    let w3 = w2.5 in
    let w4 = w3.5 in
    let w5 = w4.5 in
    let fs = every_selected (table_names head line w3.0) w1.0 w3.0 w4.0.fault in
    (fs, (w.0, w.1, w.2, w.3, w.4, (w1.0, w1.1, w1.2, w1.3, w1.4, (w2.0, w2.1, w2.2, w2.3, w2.4, (w3.0, w3.1, w3.2, w3.3, w3.4, (w4.0, w4.1, w4.2, w4.3, w4.4, (w5.0, w5.1, w5.2, w5.3, w5.4, (w5.5.0, ap (λ (z : Checked Statement). (z, fs)) w5.5.1))))))))

select-is : (head : Head) (line : List ℕ) (ts : List Token) (x : Checked Statement) (fs : List Fault) → ev.select head line ts (x, fs) → gs.select head line ts x
select-is head line ts x fs w =
    let w1 = w.5 in
    let w2 = w1.5 in
    let w3 = w2.5 in
    let w4 = w3.5 in
    let w5 = w4.5 in
    (w.0, w.1, w.2, w.3, w.4, (w1.0, w1.1, w1.2, w1.3, w1.4, (w2.0, w2.1, w2.2, w2.3, w2.4, (w3.0, w3.1, w3.2, w3.3, w3.4, (w4.0, w4.1, w4.2, w4.3, w4.4, (w5.0, w5.1, w5.2, w5.3, w5.4, (w5.5.0, ap (λ (p : Checked Statement × List Fault). p.0) w5.5.1)))))))

insert-has : (head : Head) (line : List ℕ) (ts : List Token) (x : Checked Statement) → gs.insert head line ts x → (fs : List Fault) × ev.insert head line ts (x, fs)
insert-has head line ts x w =
    let w1 = w.5 in
    let w2 = w1.5 in
    let w3 = w2.5 in
    let w4 = w3.5 in
    let w5 = w4.5 in
    let w6 = w5.5 in
    let w7 = w6.5 in
    let fs = every_inserted (table_names head line w2.0) w2.0 w3.0 w6.0 w7.0 in
    (fs, (w.0, w.1, w.2, w.3, w.4, (w1.0, w1.1, w1.2, w1.3, w1.4, (w2.0, w2.1, w2.2, w2.3, w2.4, (w3.0, w3.1, w3.2, w3.3, w3.4, (w4.0, w4.1, w4.2, w4.3, w4.4, (w5.0, w5.1, w5.2, w5.3, w5.4, (w6.0, w6.1, w6.2, w6.3, w6.4, (w7.0, w7.1, w7.2, w7.3, w7.4, (w7.5.0, ap (λ (z : Checked Statement). (z, fs)) w7.5.1))))))))))

insert-is : (head : Head) (line : List ℕ) (ts : List Token) (x : Checked Statement) (fs : List Fault) → ev.insert head line ts (x, fs) → gs.insert head line ts x
insert-is head line ts x fs w =
    let w1 = w.5 in
    let w2 = w1.5 in
    let w3 = w2.5 in
    let w4 = w3.5 in
    let w5 = w4.5 in
    let w6 = w5.5 in
    let w7 = w6.5 in
    (w.0, w.1, w.2, w.3, w.4, (w1.0, w1.1, w1.2, w1.3, w1.4, (w2.0, w2.1, w2.2, w2.3, w2.4, (w3.0, w3.1, w3.2, w3.3, w3.4, (w4.0, w4.1, w4.2, w4.3, w4.4, (w5.0, w5.1, w5.2, w5.3, w5.4, (w6.0, w6.1, w6.2, w6.3, w6.4, (w7.0, w7.1, w7.2, w7.3, w7.4, (w7.5.0, ap (λ (p : Checked Statement × List Fault). p.0) w7.5.1)))))))))

update-has : (head : Head) (line : List ℕ) (ts : List Token) (x : Checked Statement) → gs.update head line ts x → (fs : List Fault) × ev.update head line ts (x, fs)
update-has head line ts x w =
    let w1 = w.5 in
    let w2 = w1.5 in
    let w3 = w2.5 in
    let w4 = w3.5 in
    let w5 = w4.5 in
    let fs = every_updated (table_names head line w1.0) w1.0 w3.0 w4.0.fault in
    (fs, (w.0, w.1, w.2, w.3, w.4, (w1.0, w1.1, w1.2, w1.3, w1.4, (w2.0, w2.1, w2.2, w2.3, w2.4, (w3.0, w3.1, w3.2, w3.3, w3.4, (w4.0, w4.1, w4.2, w4.3, w4.4, (w5.0, w5.1, w5.2, w5.3, w5.4, (w5.5.0, ap (λ (z : Checked Statement). (z, fs)) w5.5.1))))))))

update-is : (head : Head) (line : List ℕ) (ts : List Token) (x : Checked Statement) (fs : List Fault) → ev.update head line ts (x, fs) → gs.update head line ts x
update-is head line ts x fs w =
    let w1 = w.5 in
    let w2 = w1.5 in
    let w3 = w2.5 in
    let w4 = w3.5 in
    let w5 = w4.5 in
    (w.0, w.1, w.2, w.3, w.4, (w1.0, w1.1, w1.2, w1.3, w1.4, (w2.0, w2.1, w2.2, w2.3, w2.4, (w3.0, w3.1, w3.2, w3.3, w3.4, (w4.0, w4.1, w4.2, w4.3, w4.4, (w5.0, w5.1, w5.2, w5.3, w5.4, (w5.5.0, ap (λ (p : Checked Statement × List Fault). p.0) w5.5.1)))))))

delete-has : (head : Head) (line : List ℕ) (ts : List Token) (x : Checked Statement) → gs.delete head line ts x → (fs : List Fault) × ev.delete head line ts (x, fs)
delete-has head line ts x w =
    let w1 = w.5 in
    let w2 = w1.5 in
    let w3 = w2.5 in
    let w4 = w3.5 in
    let fs = each (table_fault (table_names head line w2.0) w2.0) ++ each w3.0.fault in
    (fs, (w.0, w.1, w.2, w.3, w.4, (w1.0, w1.1, w1.2, w1.3, w1.4, (w2.0, w2.1, w2.2, w2.3, w2.4, (w3.0, w3.1, w3.2, w3.3, w3.4, (w4.0, w4.1, w4.2, w4.3, w4.4, (w4.5.0, ap (λ (z : Checked Statement). (z, fs)) w4.5.1)))))))

delete-is : (head : Head) (line : List ℕ) (ts : List Token) (x : Checked Statement) (fs : List Fault) → ev.delete head line ts (x, fs) → gs.delete head line ts x
delete-is head line ts x fs w =
    let w1 = w.5 in
    let w2 = w1.5 in
    let w3 = w2.5 in
    let w4 = w3.5 in
    (w.0, w.1, w.2, w.3, w.4, (w1.0, w1.1, w1.2, w1.3, w1.4, (w2.0, w2.1, w2.2, w2.3, w2.4, (w3.0, w3.1, w3.2, w3.3, w3.4, (w4.0, w4.1, w4.2, w4.3, w4.4, (w4.5.0, ap (λ (p : Checked Statement × List Fault). p.0) w4.5.1))))))

short-has : (head : Head) (line : List ℕ) (ts : List Token) (x : Checked Statement) → gs.short_statement head line ts x → (fs : List Fault) × ev.short head line ts (x, fs)
short-has head line ts x w = (each x.fault, (x, ts, [], sym (append-nil ts), w, (refl, refl)))

short-is : (head : Head) (line : List ℕ) (ts : List Token) (x : Checked Statement) (fs : List Fault) → ev.short head line ts (x, fs) → gs.short_statement head line ts x
short-is head line ts x fs w =
    let same : x ≡ w.0 = ap (λ (p : Checked Statement × List Fault). p.0) w.5.1 in
    let all : ts ≡ w.1 = w.3 ∙ ap (λ (z : List Token). w.1 ++ z) w.5.0 ∙ append-nil w.1 in
    subst (λ (z : Checked Statement). gs.short_statement head line ts z) (sym same) (subst (λ (z : List Token). gs.short_statement head line z w.0) (sym all) w.4)

pub text-has : (head : Head) (line : List ℕ) (ts : List Token) (x : Checked Statement) → gs.statement head line ts x → (fs : List Fault) × ev.faulty head line ts (x, fs)
text-has head line ts x (inl w) = let m = select-has head line ts x w in (m.0, inl m.1)
text-has head line ts x (inr (inl w)) = let m = insert-has head line ts x w in (m.0, inr (inl m.1))
text-has head line ts x (inr (inr (inl w))) = let m = update-has head line ts x w in (m.0, inr (inr (inl m.1)))
text-has head line ts x (inr (inr (inr (inl w)))) = let m = delete-has head line ts x w in (m.0, inr (inr (inr (inl m.1))))
text-has head line ts x (inr (inr (inr (inr w)))) = let m = short-has head line ts x w in (m.0, inr (inr (inr (inr m.1))))

pub text-is : (head : Head) (line : List ℕ) (ts : List Token) (x : Checked Statement) (fs : List Fault) → ev.faulty head line ts (x, fs) → gs.statement head line ts x
text-is head line ts x fs (inl w) = inl (select-is head line ts x fs w)
text-is head line ts x fs (inr (inl w)) = inr (inl (insert-is head line ts x fs w))
text-is head line ts x fs (inr (inr (inl w))) = inr (inr (inl (update-is head line ts x fs w)))
text-is head line ts x fs (inr (inr (inr (inl w)))) = inr (inr (inr (inl (delete-is head line ts x fs w))))
text-is head line ts x fs (inr (inr (inr (inr w)))) = inr (inr (inr (inr (short-is head line ts x fs w))))
