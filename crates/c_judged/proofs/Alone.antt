-- A declaration without names: a structure's tag alone, or other specifiers.
use Rattle.std.proofs.Common.{◌≡◌, Option, Some, None, refl, ap, ◌∙◌, sym}
use Rattle.c_tree.specs.Tree.{Name, Specifiers, no_specifiers, specifiers, struct_tag}
use Rattle.c_environment.specs.Environment.{Environment, tag_here}
use Rattle.c_environment.specs.Behind.{behind_specifiers}
use Rattle.c_environment.specs.Scopes.{behind_alone, declared_tag}
use Rattle.c_environment.specs.Tags.{tag_alone}
use Rattle.c_environment.proofs.Alone as alone
use Rattle.c_declared.specs.declared.faults.Faults.{Faults}
use Rattle.c_declared.specs.Faults.{faults_specifiers, names_enumeration, repeated_if}
use Rattle.c_declared.specs.Said.{Said, nothing}
use Rattle.c_declared.specs.Operands.{Rows}
use Rattle.c_declared.specs.Nodes.{said_specifiers}
use Rattle.c_judged.specs.Declarations.{alone_faults}

abbrev faults_tag_or : Environment → Specifiers → Option Name → Faults
faults_tag_or env ws (Some n) = repeated_if (names_enumeration (tag_here env n))
faults_tag_or env ws None = faults_specifiers env ws

faults_are : (env : Environment) (ws : Specifiers) → faults_tag_or env ws (tag_alone ws) ≡ alone_faults env ws
faults_are env no_specifiers = refl
faults_are env (specifiers (struct_tag n) no_specifiers) = refl
faults_are env (specifiers _ no_specifiers) = refl
faults_are env (specifiers (struct_tag n) (specifiers v vs)) = refl
faults_are env (specifiers _ (specifiers v vs)) = refl

abbrev said_tag_or : Rows → Environment → Specifiers → Option Name → Said
said_tag_or rows env ws (Some n) = nothing
said_tag_or rows env ws None = said_specifiers rows env ws

said_are : (rows : Rows) (env : Environment) (ws : Specifiers) → said_tag_or rows env ws (tag_alone ws) ≡ said_specifiers rows env ws
said_are rows env no_specifiers = refl
said_are rows env (specifiers (struct_tag n) no_specifiers) = refl
said_are rows env (specifiers _ no_specifiers) = refl
said_are rows env (specifiers (struct_tag n) (specifiers v vs)) = refl
said_are rows env (specifiers _ (specifiers v vs)) = refl

-- a tag alone
pub tag_faults : (env : Environment) (ws : Specifiers) (n : Name) → Some n ≡ tag_alone ws → alone_faults env ws ≡ repeated_if (names_enumeration (tag_here env n))
tag_faults env ws n e = sym (ap (faults_tag_or env ws) e ∙ faults_are env ws)

pub tag_said : (rows : Rows) (env : Environment) (ws : Specifiers) (n : Name) → Some n ≡ tag_alone ws → said_specifiers rows env ws ≡ nothing
tag_said rows env ws n e = sym (ap (said_tag_or rows env ws) e ∙ said_are rows env ws)

pub tag_behind : (env : Environment) (ws : Specifiers) (n : Name) → Some n ≡ tag_alone ws → behind_alone env ws ≡ declared_tag env n (tag_here env n)
tag_behind env ws n e = sym (ap (alone.behind_tag_or env ws) e ∙ alone.alone_is env ws)

-- other specifiers
pub other_faults : (env : Environment) (ws : Specifiers) → None ≡ tag_alone ws → alone_faults env ws ≡ faults_specifiers env ws
other_faults env ws e = sym (ap (faults_tag_or env ws) e ∙ faults_are env ws)

pub other_behind : (env : Environment) (ws : Specifiers) → None ≡ tag_alone ws → behind_alone env ws ≡ behind_specifiers env ws
other_behind env ws e = sym (ap (alone.behind_tag_or env ws) e ∙ alone.alone_is env ws)
