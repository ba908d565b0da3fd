-- Types, the members of structs and their declarators are read.
use Rattle.std.proofs.Common.{◌≡◌, ◌≢◌, inr, ℕ, ◌+◌, true, false, [], ◌∷◌, codes, refl}
use Rattle.std.proofs.lemmas.Bool.{cond-true}
use Rattle.c_tree.specs.Tree.{typed, Specifiers, Members, no_members, member, Declarators, no_declarators, declarators, DeclaratorTree, BareTree}
use Rattle.c_tree.specs.Marks.{Tokens, mark}
use Rattle.c_tree.specs.TypeWords.{NamesType}
use Rattle.c_tree.specs.ExpressionShape.{HasDeclarator, IsNoFunction, ShapeDeclarators}
use Rattle.c_grammar.specs.declared.kind.Kind.{Kind}
use Rattle.c_grammar.specs.declared.kind.Kind.TheVariants as k
use Rattle.c_grammar.specs.Kind.{kind}
use Rattle.c_grammar.specs.Body.{got, stop}
use Rattle.c_grammar.specs.Rules.{NameEnvironment, begins_type, more_members_by, a_type, all_members, more_members, all_declarators, more_declarators}
use Rattle.c_grammar.proofs.Onto.{onto_specifiers, onto_members, onto_declarators, onto_more_declarators, onto_bare}
use Rattle.c_grammar.proofs.Parse.{parse}
use Rattle.c_grammar.proofs.KindLemmas.{kind_at}
use Rattle.c_grammar.proofs.Runs.{ran, run_done, run_seen, run_at, run_take, run_spend, run_call, run_expect}
use Rattle.c_grammar.proofs.ReadBack.Tree.{EndsType, EndsDeclarator, ReadsType, ReadsSpecifiers, ReadsMembers, ReadsDeclarators, ReadsDeclarator, ReadsBare}
use Rattle.c_grammar.proofs.ReadBack.Words.{other_kind}
use Rattle.c_grammar.proofs.ReadBack.Stars.{type_ends_bare, type_ends_declarator, declares_ordinary}

-- what goes on with members
members_go : (t : NameEnvironment) (d : ℕ) (e : Kind) → begins_type e ≡ true → more_members_by t d e ≡ more_members_by t d k.Int
members_go t d k.CloseBrace h = absurd (cc)
members_go t d e h = cond-true (begins_type e) (more_members_by t d k.Int) stop h

ends_at : (e : Kind) (ts : Tokens) → kind [] ts ≡ e → e ≢ k.OpenBracket → e ≢ k.OpenParen → EndsDeclarator ts
ends_at e ts is one other = (other_kind [] ts e k.OpenBracket is one, other_kind [] ts e k.OpenParen is other)

-- behind a declarator stands a comma or the semicolon
declarators_end : (cs : Declarators) (r : Tokens) → EndsDeclarator (onto_more_declarators cs (mark (codes ";") ∷ r))
declarators_end no_declarators r = ends_at k.Semicolon _ (kind_at [] k.Semicolon [] r tt) (λ q. cc) (λ q. cc)
declarators_end (declarators c cs) r = ends_at k.Comma _ (kind_at [] k.Comma [] _ tt) (λ q. cc) (λ q. cc)

module _ (t : NameEnvironment) where
  -- a type is read
  pub typed_reads : (ws : Specifiers) (b : BareTree) → NamesType ws → ReadsSpecifiers t ws → ReadsBare t b → ReadsType t (typed ws b)
  typed_reads ws b one hws hb = record {
    all = λ d r.
        let us = mark (codes ")") ∷ r in
        let e : kind [] us ≡ k.CloseParen = kind_at [] k.CloseParen [] r tt in
        ran (a_type t d) _ (got (typed ws b) us tt)
        (run_call refl (hws.all d false [] (onto_bare b us) one (type_ends_bare t b us (inr e))) (run_call refl (hb.all d us (inr e)) (run_done refl)));
  }

  -- the end of declarators is read
  pub no_declarators_reads : ReadsDeclarators t no_declarators
  no_declarators_reads = record {
    all = λ d r some. absurd some;
    more = λ d r. ran (more_declarators t d) _ (got no_declarators (mark (codes ";") ∷ r) tt) (run_at k.Semicolon tt (run_done refl));
  }

  -- declarators are read
  pub declarators_reads : (c : DeclaratorTree) (cs : Declarators) → IsNoFunction c → ReadsDeclarator t false c → ReadsDeclarators t cs → ReadsDeclarators t (declarators c cs)
  declarators_reads c cs object hc hcs = record {
    all = λ d r some.
        ran (all_declarators t d) _ (got (declarators c cs) (mark (codes ";") ∷ r) tt)
        (run_call refl (hc.all (d + 1) false _ (λ e. object) (declarators_end cs r)) (run_call refl (hcs.more d r) (run_done refl)));
    more = λ d r.
        ran (more_declarators t d) _ (got (declarators c cs) (mark (codes ";") ∷ r) tt)
        (run_at k.Comma tt (run_spend (run_take
        (run_call refl (hc.all (d + 1) false _ (λ e. object) (declarators_end cs r)) (run_call refl (hcs.more d r) (run_done refl))))));
  }

  -- the end of members is read
  pub no_members_reads : ReadsMembers t no_members
  no_members_reads = record {
    all = λ d r some. absurd some;
    more = λ d r. ran (more_members t d) _ (got no_members r tt) (run_at k.CloseBrace tt (run_take (run_done refl)));
  }

  -- the declarators of a member end its specifiers
  type_ends_declarators : (cs : Declarators) (r : Tokens) → HasDeclarator cs → ShapeDeclarators t.types cs → EndsType t (onto_declarators cs r)
  type_ends_declarators no_declarators r some s = absurd some
  type_ends_declarators (declarators c cs) r some s = type_ends_declarator t c _ (declares_ordinary t.types c s.1)

  -- a member is read
  pub member_reads : (ws : Specifiers) (cs : Declarators) (ms : Members) → NamesType ws → HasDeclarator cs → ShapeDeclarators t.types cs → ((us : Tokens) → begins_type (kind t.types (onto_specifiers ws us)) ≡ true) →
      ReadsSpecifiers t ws → ReadsDeclarators t cs → ReadsMembers t ms → ReadsMembers t (member ws cs ms)
  member_reads ws cs ms one some s begins hws hcs hms =
      let all : (d : ℕ) (r : Tokens) → parse (all_members t d) (onto_members (member ws cs ms) (mark (codes "}") ∷ r)) ≡ got (member ws cs ms) r tt =
      λ d r. ran (all_members t d) _ (got (member ws cs ms) r tt)
      (run_call refl (hws.all d false [] _ one (type_ends_declarators cs _ some s))
      (run_call refl (hcs.all d _ some)
      (run_expect k.Semicolon tt (run_call refl (hms.more d r) (run_done refl))))) in
      record {
        all = λ d r some. all d r;
        more = λ d r. ran (more_members t d) _ (got (member ws cs ms) r tt) (run_seen (members_go t d _ (begins _)) (run_spend (run_call refl (all d r) (run_done refl))));
      }
