-- The objects of a frame: a frame has an object of its own for each automatic variable and parameter, from its beginning until it leaves
-- (C11 6.2.4p5, p6).
use Rattle.std.specs.Prelude.{◌≡◌, ℕ, List, [], ◌∷◌, Option, Some, None, Bool, true, false}
use Rattle.run_model.specs.Values.{Word, Value, Scalar, NoValue, update}
use Rattle.run_model.specs.Objects.{Content, OfWord, Object, Objects, Fresh}
use Rattle.run_model.specs.Code.{Code, OfVariable, Parameter, function, enter_of}
use Rattle.run_model.specs.World.{How, Frame, Shared}

abbrev pub no_locals : ℕ → Option ℕ
no_locals = λ v. None

abbrev pub variable_object : Code → Bool → ℕ → Content → Object
variable_object code inside v x = record { origin = OfVariable v; inside = inside; gone = false; kind = (code.variable v).kind; content = x }

-- each variable of the list gets an object that wasn't there
pub data Makes (code : Code) (inside : Bool) : List ℕ → Objects → (ℕ → Option ℕ) → Objects → Type 0 where
  none : {objects : Objects} → Makes code inside [] objects no_locals objects
  one : (o : ℕ) {v : ℕ} {vs : List ℕ} {before objects : Objects} {locals : ℕ → Option ℕ} {x : Content}
      → Makes code inside vs before locals objects → objects o ≡ None → Fresh (code.variable v).kind x
      → Makes code inside (v ∷ vs) before (update locals v (Some o)) (update objects o (Some (variable_object code inside v x)))

-- the objects of a frame of the function f
abbrev pub FrameObjects : Code → ℕ → Bool → Objects → (ℕ → Option ℕ) → Objects → Type 0
FrameObjects code f inside before locals objects = Makes code inside (function code f).locals before locals objects

-- ---- parameters get their values (C11 6.5.2.2p4)

abbrev pub write_word : Word → Option Object → Option Object
write_word w None = None
write_word w (Some x) = Some (record x { content = OfWord w })

abbrev pub put_word : Option ℕ → Word → Objects → Objects
put_word None w objects = objects
put_word (Some o) w objects = update objects o (write_word w (objects o))

abbrev pub give : (ℕ → Option ℕ) → Option ℕ → Value → Objects → Objects
give locals None v objects = objects
give locals (Some p) (Scalar w) objects = put_word (locals p) w objects
give locals (Some p) v objects = objects

abbrev pub give_all : (ℕ → Option ℕ) → List Parameter → List Value → Objects → Objects
give_all locals [] vs objects = objects
give_all locals (p ∷ ps) [] objects = objects
give_all locals (p ∷ ps) (v ∷ vs) objects = give locals p.variable v (give_all locals ps vs objects)

-- a frame begins
abbrev pub begin : Code → ℕ → How → (ℕ → Option ℕ) → Frame
begin code f how locals = record { fn = f; how = how; pos = enter_of code f; vals = λ n. NoValue; locals = locals; to_run = []; old = None }

-- ---- a frame leaves, and its objects with it

abbrev pub marked : Option Object → Option Object
marked None = None
marked (Some x) = Some (record x { gone = true })

abbrev pub lose : Option ℕ → Objects → Objects
lose None objects = objects
lose (Some o) objects = update objects o (marked (objects o))

abbrev pub lose_all : (ℕ → Option ℕ) → List ℕ → Objects → Objects
lose_all locals [] objects = objects
lose_all locals (v ∷ vs) objects = lose (locals v) (lose_all locals vs objects)

abbrev pub left : Code → Frame → Shared → Shared
left code f s = record s { objects = lose_all f.locals (function code f.fn).locals s.objects }
