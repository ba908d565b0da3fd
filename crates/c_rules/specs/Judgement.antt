-- What is said of a node of a program, and how it follows from what is said of its parts.
use Rattle.std.specs.Prelude.{List, Option, Some, None, Bool, true, false, ◌&&◌, if◌then◌else◌}
use Rattle.std.specs.List.{list_all}
use Rattle.c_kinds.specs.Kind.{Kind}
use Rattle.c_rules.specs.declared.misfit.MisfitKind.{MisfitKind}
use Rattle.c_rules.specs.declared.misfit.MisfitKind.TheVariants.{LibraryAsValue}
use Rattle.c_rules.specs.declared.form.Form.{Form}

-- It has this kind; it breaks this rule; it waits, since a part of it breaks one or waits; or by its form it has no kind, as a statement,
-- a list of initialisers and the name of a library function have none.
pub data Judgement : Type 0 where
  fits : Kind → Judgement
  fails : MisfitKind → Judgement
  waits : Judgement
  silent : Judgement

-- An expression as an operand: what is said of it, and its form.
pub record Operand : Type 0 where
  pub judged : Judgement
  pub form : Form

-- its kind, where it has one
abbrev pub kind : Judgement → Option Kind
kind (fits k) = Some k
kind _ = None

-- the rule that it breaks
abbrev pub misfit : Judgement → Option MisfitKind
misfit (fails m) = Some m
misfit _ = None

-- A rule is asked once all parts have kinds. A part that by its form has none counts as one that has; so does the name of a library
-- function where it mustn't stand, which is told at that name.
abbrev pub is_settled : Judgement → Bool
is_settled (fits k) = true
is_settled silent = true
is_settled (fails LibraryAsValue) = true
is_settled _ = false

-- By a part's kind. A part that counts as one that has a kind gives None.
abbrev pub after_one : Judgement → (Option Kind → Judgement) → Judgement
after_one j rule = if is_settled j then rule (kind j) else waits

abbrev pub after_two : Judgement → Judgement → (Option Kind → Option Kind → Judgement) → Judgement
after_two i j rule = if is_settled i && is_settled j then rule (kind i) (kind j) else waits

abbrev pub after_three : Judgement → Judgement → Judgement → (Option Kind → Option Kind → Option Kind → Judgement) → Judgement
after_three h i j rule = if is_settled h && is_settled i && is_settled j then rule (kind h) (kind i) (kind j) else waits

-- once all operands are settled
abbrev pub after_all : List Operand → Judgement → Judgement
after_all xs j = if list_all (λ x. is_settled x.judged) xs then j else waits

-- A rule that asks for kinds isn't broken where one is missing; the node then has no kind itself.
abbrev pub by_one : Option Kind → (Kind → Judgement) → Judgement
by_one (Some k) rule = rule k
by_one None rule = waits

abbrev pub by_two : Option Kind → Option Kind → (Kind → Kind → Judgement) → Judgement
by_two (Some k) (Some l) rule = rule k l
by_two _ _ rule = waits

abbrev pub by_three : Option Kind → Option Kind → Option Kind → (Kind → Kind → Kind → Judgement) → Judgement
by_three (Some j) (Some k) (Some l) rule = rule j k l
by_three _ _ _ rule = waits

-- Of two rules at one node the first that is broken is told.
abbrev pub unless : Option MisfitKind → Judgement → Judgement
unless (Some m) j = fails m
unless None j = j
