-- The members of a struct, one by one.
use Rattle.std.proofs.Common.{◌≡◌, ◌<◌, ◌≤◌, ℕ, ◌+◌, Bool, true, false, if◌then◌else◌, List, [], ◌∷◌, length, Option, Some, None, refl, sym, ap, ◌∙◌, subst, arith}
use Rattle.c_tree.specs.Tree.{Specifiers, Declarators, Members, no_members}
use Rattle.c_tree.specs.View.{members_of}
use Rattle.c_grammar.specs.declared.kind.Kind.{Kind}
use Rattle.c_grammar.specs.declared.kind.Kind.TheVariants as k
use Rattle.c_grammar.specs.Kind.{kind, same_kind}
use Rattle.c_grammar.specs.Body.{done, stop, look, take, spend, Outcome, got, refused, exceeded, and_then, and_paid, Reader}
use Rattle.c_grammar.specs.Body as body
use Rattle.c_grammar.specs.Gauge.{Meter, within, added}
use Rattle.c_grammar.specs.Input.{Input, next, metered}
use Rattle.c_grammar.specs.Reading.{read}
use Rattle.c_grammar.specs.Rules.{NameEnvironment, rule, begins_type, all_specifiers, all_declarators, all_members, more_members, more_members_by, expect}
use Rattle.c_grammar.specs.declared.refusal.Refusal.{Refusal}
use Rattle.c_grammar.specs.Gives.{Fails}
use Rattle.c_grammar.specs.Lists.{mapped, before}
use Rattle.c_grammar.specs.Performing.{perform, at}
use Rattle.c_grammar.proofs.Joining.{same_mapped, Joins, join_call, join_expect, then_fails}
use Rattle.c_grammar.proofs.Loops.{Turn}
use Rattle.c_grammar.proofs.Opens.{members_performs, more_members_performs}
use Rattle.c_grammar.proofs.Shorter.{read_leaves}
use Rattle.type_parser.specs.Tagged.{OneMember, one_member, behind_member_by, with_member}
use Rattle.type_parser.proofs.TaggedShorter.{Under, then_under, expect_under}

tail_twice : {A B : Type 0} (g : A → B) (o : Outcome Meter A) → and_then (and_then o (λ v us m. got v us m)) (λ v us m. got (g v) us m) ≡ mapped g o
tail_twice g (got v us m) = refl
tail_twice g (refused us) = refl
tail_twice g (exceeded us) = refl

module _ (t : NameEnvironment) (d : ℕ) where
  abbrev others : OneMember → Reader Meter Members
  others (x, true) us m = got (with_member x no_members) us m
  others (x, false) us m = mapped (with_member x) (read (all_members t d) (at us m))

  paid_on : (x : Specifiers × Declarators) (o : Option Meter) (j : Input) →
      and_then (and_paid o j.rest (λ m. perform (body.call (all_members t d) done) (metered m j))) (λ ms us m. got (with_member x ms) us m)
      ≡ and_then (mapped (λ y. y) (and_paid o j.rest (λ m. perform (done (x, false)) (metered m j)))) others
  paid_on x None j = refl
  paid_on x (Some m) j = tail_twice (with_member x) (read (all_members t d) (at j.rest m))

  begins_on : (x : Specifiers × Declarators) (b : Bool) (j : Input) →
      and_then (perform (if b then spend 1 (d + 1) (body.call (all_members t d) done) else stop) j) (λ ms us m. got (with_member x ms) us m)
      ≡ and_then (mapped (λ y. y) (perform (if b then spend 1 (d + 1) (done (x, false)) else stop) j)) others
  begins_on x true j = paid_on x (within (added 1 (d + 1) j.meter)) j
  begins_on x false j = refl

  behind_by : (x : Specifiers × Declarators) (y : Kind) (j : Input) →
      and_then (perform (more_members_by t d y) j) (λ ms us m. got (with_member x ms) us m) ≡ and_then (mapped (λ y. y) (perform (behind_member_by t d x y) j)) others
  behind_by x k.CloseBrace j = refl
  behind_by x y j = begins_on x (begins_type y) j

  behind_on : {x : Specifiers × Declarators} {j : Input} → Joins (λ y. y) others (body.call (more_members t d) (λ ms. done (with_member x ms))) (look t.types (behind_member_by t d x)) j
  behind_on {x = x} {j = j} =
      record { is = ap (λ o. and_then o (λ ms us m. got (with_member x ms) us m)) (more_members_performs t d j) ∙ behind_by x (kind t.types j.rest) j }

  members_on : (i : Input) → read (all_members t d) i ≡ and_then (perform (one_member t d) i) others
  members_on i =
      let h : Joins (λ y. y) others (rule (all_members t d)) (one_member t d) i =
      join_call (λ ws us p. join_call (λ cs vs q. join_expect k.Semicolon behind_on)) in
      members_performs t d i ∙ h.is ∙ ap (λ o. and_then o others) (same_mapped (perform (one_member t d) i))

  -- its specifiers, its declarators and its semicolon
  pub member_parts : (i j l n : Input) (ws : Specifiers) (cs : Declarators) → read (all_specifiers t d false []) i ≡ got ws j.rest j.meter → read (all_declarators t d) j ≡ got cs l.rest l.meter →
      same_kind (kind [] l.rest) k.Semicolon ≡ true → n ≡ next l → perform (one_member t d) i ≡ perform (look t.types (behind_member_by t d (ws, cs))) n
  member_parts i j l n ws cs first second is go =
      ap (λ o. and_then o (λ v us m. and_then (read (all_declarators t d) (at us m)) (λ w vs q. perform (expect k.Semicolon (look t.types (behind_member_by t d (v, w)))) (at vs q)))) first
      ∙ ap (λ o. and_then o (λ w vs q. perform (expect k.Semicolon (look t.types (behind_member_by t d (ws, w)))) (at vs q))) second
      ∙ ap (λ b. perform (if b then take (λ z. look t.types (behind_member_by t d (ws, cs))) else stop) l) is
      ∙ ap (λ z. perform (look t.types (behind_member_by t d (ws, cs))) z) (sym go)

  -- one member more
  pub members_turn : (i j : Input) (x : Specifiers × Declarators) → perform (one_member t d) i ≡ got (x, false) j.rest j.meter → Turn with_member x (read (all_members t d) i) (read (all_members t d) j)
  members_turn i j x e = record { is = members_on i ∙ ap (λ o. and_then o others) e }

  -- the last
  pub members_last : (i j : Input) (x : Specifiers × Declarators) → perform (one_member t d) i ≡ got (x, true) j.rest j.meter → Turn with_member x (read (all_members t d) i) (got no_members j.rest j.meter)
  members_last i j x e = record { is = members_on i ∙ ap (λ o. and_then o others) e }

  pub members_fail : (i : Input) (e : Refusal) → Fails (perform (one_member t d) i) e → Fails (read (all_members t d) i) e
  members_fail i e h = subst (λ o. Fails o e) (sym (members_on i)) (then_fails others h)

  member_under : (n : ℕ) (i : Input) → length i.rest ≤ n → Under n (perform (one_member t d) i)
  member_under n i less =
      then_under n (read (all_specifiers t d false []) i) _ (read_leaves n (all_specifiers t d false []) i less)
      (λ ws us m p. then_under n (read (all_declarators t d) (at us m)) _ (read_leaves n (all_declarators t d) (at us m) p) (λ cs vs q r. expect_under n k.Semicolon (look t.types (behind_member_by t d (ws, cs))) (at vs q) (λ e. absurd cc) r))

  pub members_shorter : (i j : Input) (x : OneMember) → perform (one_member t d) i ≡ got x j.rest j.meter → length j.rest < length i.rest
  members_shorter i j x e = subst (λ o. Under (length i.rest) o) e (member_under (length i.rest) i (omega arith))

-- the list of all of them
pub members_none : (xs : List (Specifiers × Declarators)) → before with_member xs no_members ≡ members_of xs
members_none [] = refl
members_none (x ∷ xs) = ap (with_member x) (members_none xs)
