-- A closure crosses to a thread where all that it captures does.
use denote.Exit.{Kept}
use denote.Param.{arg}
use denote.Param.Send.{AllSend, IsSend, arg_send, recorded_send, struct_send}
use denote.RattleType.{RattleType}
use denote.Struct.Declared as struct
use denote.Struct.Field.{rows}
use denote.Struct.Tuple.{TupleAt, parts, type_at}
use mathlib.Core.List.{List, [], ◌∷◌}
use mir.Syntax.{Sym, Ty}

-- the rows of a tuple's parts are those of its elements
all_parts : (Ts : List RattleType) → AllSend Ts → AllSend (rows (parts Ts))
all_parts [] s = tt
all_parts (R ∷ Ts) s = (s.0, all_parts Ts s.1)

tuple_send : (name : Sym) (Ts : List RattleType) → AllSend Ts → IsSend (TupleAt name Ts)
tuple_send name Ts s = let T = type_at name Ts in recorded_send (struct.field T).row _ _ T.to_one (struct_send (struct.shape T) (all_parts Ts s))

-- a closure is a tuple of its captures
pub closure_send : (δ : Ty) (k : Kept) (name : Sym) (Ts : List RattleType) → AllSend Ts → IsSend (arg δ k (TupleAt name Ts))
closure_send δ k name Ts s = arg_send δ k (TupleAt name Ts) (tuple_send name Ts s)
