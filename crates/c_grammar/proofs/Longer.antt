-- A tree that is spelled takes a token at least.
use Rattle.std.proofs.Common.{◌<◌, ◌≤◌, ◌++◌, length, ap, length-append, arith}
use Rattle.c_tree.specs.Tree.{Specifiers, no_specifiers, specifiers, Specifier, const_word, DeclaratorTree, plain, array, function, pointer}
use Rattle.c_tree.specs.Marks.{Tokens}
use Rattle.c_tree.specs.TypeWords.{NamesType}
use Rattle.c_tree.specs.Spelling.{spell_specifier, spell_specifiers, spell_stars, spell_declarator}
use Rattle.c_grammar.proofs.Onto.{onto_specifiers, onto_declarator}
use Rattle.c_grammar.proofs.OntoSpelling.{specifiers_onto, declarator_onto}

specifier_spelled : (w : Specifier) → 1 ≤ length (spell_specifier w)
specifier_spelled const_word = omega arith
specifier_spelled _ = omega arith

-- specifiers that name a type take a token at least
pub specifiers_longer : (xs : Specifiers) (r : Tokens) → NamesType xs → length r < length (onto_specifiers xs r)
specifiers_longer no_specifiers r one = absurd (cc)
specifiers_longer (specifiers w ws) r one =
    omega (arith, specifier_spelled w, ap length (specifiers_onto (specifiers w ws) r), length-append (spell_specifiers (specifiers w ws)) r, length-append (spell_specifier w) (spell_specifiers ws))

behind_stars : (ts us : Tokens) → 1 ≤ length us → 1 ≤ length (ts ++ us)
behind_stars ts us some = omega (arith, length-append ts us)

declarator_spelled : (c : DeclaratorTree) → 1 ≤ length (spell_declarator c)
declarator_spelled (plain ss n) = behind_stars (spell_stars ss) _ (omega arith)
declarator_spelled (array ss n xs) = behind_stars (spell_stars ss) _ (omega arith)
declarator_spelled (function ss n ps v) = behind_stars (spell_stars ss) _ (omega arith)
declarator_spelled (pointer ss qs n xs ps v) = behind_stars (spell_stars ss) _ (omega arith)

-- a declarator takes a token at least
pub declarator_longer : (c : DeclaratorTree) (r : Tokens) → length r < length (onto_declarator c r)
declarator_longer c r = omega (arith, declarator_spelled c, ap length (declarator_onto c r), length-append (spell_declarator c) r)
