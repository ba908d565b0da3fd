use Rattle.std.proofs.Common.{◌≡◌, sym, subst, ◌∙◌, true}
use Rattle.std.specs.Prelude.{◌↔◌, IsTrue}
use Rattle.fact_values.specs.FactLists.{FactsValue}
use Rattle.fact_values.specs.Facts.{view, Fits}
use Rattle.fact_values.proofs.Holding.{thread_nothing, fork_nothing}
use Rattle.fact_values.proofs.facts.Facts.holds.Goals as goal

pub returns-in-Installed-h : goal.returns-in-Installed-h
returns-in-Installed-h c = rw (c.in-Installed.is, c.in-Installed-h.is) c.holds_installed.ensures

pub returns-in-Thread : goal.returns-in-Thread
returns-in-Thread c = rw (c.in-Thread.is, thread_nothing c.in-Thread.function c.args.h.now (subst (λ p. Fits p c.args.h.now) c.in-Thread.is c.requires.form))
    (subst (λ (v : FactsValue). IsTrue c.contains-in-Thread.result ↔ ((view v.lists).is_thread c.in-Thread.function ≡ true)) c.self.view_is (λ t. sym c.contains-in-Thread.ensures ∙ t, λ t. c.contains-in-Thread.ensures ∙ t))

pub returns-in-Fork : goal.returns-in-Fork
returns-in-Fork c = rw (c.in-Fork.is, fork_nothing c.in-Fork.role c.in-Fork.function c.args.h.now (subst (λ p. Fits p c.args.h.now) c.in-Fork.is c.requires.form))
    (subst (λ (v : FactsValue). IsTrue c.contains-in-Fork.result ↔ ((view v.lists).is_fork c.in-Fork.role c.in-Fork.function ≡ true)) c.self.view_is
    (λ t. sym c.contains-in-Fork.ensures ∙ t, λ t. c.contains-in-Fork.ensures ∙ t))
