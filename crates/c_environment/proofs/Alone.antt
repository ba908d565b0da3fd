-- A declaration without names: a structure's tag alone, or other specifiers.
use Rattle.std.proofs.Common.{◌≡◌, Option, Some, None, refl}
use Rattle.c_scopes.specs.Scope.{Name}
use Rattle.c_tree.specs.Tree.{Specifiers, no_specifiers, specifiers, struct_tag}
use Rattle.c_environment.specs.Environment.{Environment, tag_here}
use Rattle.c_environment.specs.Behind.{behind_specifiers}
use Rattle.c_environment.specs.Scopes.{behind_alone, declared_tag}
use Rattle.c_environment.specs.Tags.{tag_alone}

abbrev pub behind_tag_or : Environment → Specifiers → Option Name → Environment
behind_tag_or env ws (Some n) = declared_tag env n (tag_here env n)
behind_tag_or env ws None = behind_specifiers env ws

pub alone_is : (env : Environment) (ws : Specifiers) → behind_tag_or env ws (tag_alone ws) ≡ behind_alone env ws
alone_is env no_specifiers = refl
alone_is env (specifiers (struct_tag n) no_specifiers) = refl
alone_is env (specifiers _ no_specifiers) = refl
alone_is env (specifiers (struct_tag n) (specifiers v vs)) = refl
alone_is env (specifiers _ (specifiers v vs)) = refl
