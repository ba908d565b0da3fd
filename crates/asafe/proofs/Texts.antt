-- Texts that are scanned and parsed.
use Rattle.std.proofs.Common.{◌≡◌, ◌∙◌, ap, subst, ℕ, suc, ◌<◌, ◌≤◌, ◌⊎◌, inl, inr, List, length, take, Ok, Result, true, false, sym, arith}
use Rattle.base_core.specs.declared.token.Token.{Token}
use Rattle.c_lexer.specs.Lexis.{Lexis, lexis}
use Rattle.c_lexer.specs.declared.fault.LexFault.{LexFault}
use Rattle.c_tree.specs.Tree.{ItemTree}
use Rattle.c_tree.specs.Shape.{Shape}
use Rattle.c_tree.specs.Spelling.{spell}
use Rattle.c_tree.specs.Limits.{WithinLimits, NestsAtMost}
use Rattle.c_parser.specs.Faults.{BeginsWith, NoneWithinLimitsBegins, IsFirstNested}
use Rattle.flat_programs.specs.Condition.{are_safe}
use Rattle.flat_programs.specs.FlatTree.{FlatTree}
use Rattle.flat_programs.specs.FlatShape.{IsFlat}
use Rattle.flat_programs.specs.FlatSpelling as flat
use Rattle.flat_programs.specs.WholeProgram.{IsFlatProgram, program_of}
use Rattle.flat_programs.proofs.Conditions.{accepted, not_accepted}
use Rattle.flat_programs.proofs.NoBreach.{sound}
use Rattle.flat_programs.proofs.Whole.{flat_is_whole}
use Rattle.asafe.specs.declared.token_fault.TokenFault.{TokenFault}
use Rattle.asafe.specs.declared.token_fault.TokenFault.TheVariants as fault
use Rattle.asafe.specs.Deciding.{IsProgram}
use Rattle.asafe.specs.Text.{HasTokens, SpellsOnly, KeepsTheRules, IsRefusedText, IsNotFlat, IsTokenFault}

same_ok : (a b : Lexis) → ◌≡◌ {A = Result Lexis LexFault} (Ok a) (Ok b) → a ≡ b
same_ok a b same = cc

-- a text has one token list
pub tokens_only : (text : List ℕ) (read : Lexis) (ts : List Token) → lexis text ≡ Ok read → HasTokens text ts → ts ≡ read.tokens
tokens_only text read ts lexed has = sym has.2 ∙ ap (λ (l : Lexis). l.tokens) (same_ok has.0 read (sym has.1 ∙ lexed))

-- the text spells the program of its tokens, and no other
spells_only : (text : List ℕ) (read : Lexis) (p : IsProgram read.tokens) → lexis text ≡ Ok read → SpellsOnly text p.items
spells_only text read p lexed = record {
  spells = record { shape = p.shape; tokens = (read, lexed, sym p.spelled) };
  only = λ others spells. p.only others spells.shape (tokens_only text read (spell others) lexed spells.tokens);
  limits = p.limits;
}

-- where a flat program spells the tokens, it is the program of the tokens
whole : (read : Lexis) (p : IsProgram read.tokens) (t : FlatTree) → IsFlat t → flat.spell t ≡ read.tokens → p.items ≡ program_of t
whole read p t is_flat spelled =
    let same = flat_is_whole t is_flat in
    sym (p.only (program_of t) same.shape (same.spelled ∙ spelled))

flat_only : (text : List ℕ) (read : Lexis) (p : IsProgram read.tokens) (t : FlatTree) → lexis text ≡ Ok read → IsFlat t → flat.spell t ≡ read.tokens → SpellsOnly text (program_of t)
flat_only text read p t lexed is_flat spelled = subst (SpellsOnly text) (whole read p t is_flat spelled) (spells_only text read p lexed)

pub keeps : (text : List ℕ) (read : Lexis) (p : IsProgram read.tokens) (t : FlatTree) → lexis text ≡ Ok read → IsFlat t → flat.spell t ≡ read.tokens
    → are_safe t.statements t.handlers ≡ true → KeepsTheRules text
keeps text read p t lexed is_flat spelled safe = record {
  tree = t;
  program = flat_only text read p t lexed is_flat spelled;
  flat = is_flat;
  accepted = accepted t safe;
  runs = λ w run start goes. sound t (accepted t safe) w run start goes;
}

pub refuses : (text : List ℕ) (read : Lexis) (p : IsProgram read.tokens) (t : FlatTree) → lexis text ≡ Ok read → IsFlat t → flat.spell t ≡ read.tokens
    → are_safe t.statements t.handlers ≡ false → IsRefusedText text
refuses text read p t lexed is_flat spelled unsafe = record {
  tree = t;
  program = flat_only text read p t lexed is_flat spelled;
  flat = is_flat;
  refused = not_accepted t unsafe;
}

pub is_not_flat : (text : List ℕ) (read : Lexis) (p : IsProgram read.tokens) → lexis text ≡ Ok read → ((u : FlatTree) → IsFlat u → flat.spell u ≡ read.tokens → ⊥) → IsNotFlat text
is_not_flat text read p lexed none = record {
  items = p.items;
  program = spells_only text read p lexed;
  not_flat = λ (f : IsFlatProgram p.items). none f.tree f.flat (sym (flat_is_whole f.tree f.flat).spelled ∙ ap spell (sym f.is) ∙ p.spelled);
}

-- ---- the tokens of programs within the limits

less_or_same : (k n : ℕ) → k ≤ n → (k < n) ⊎ (k ≡ n)
less_or_same k n within = grind arith

-- tokens begin with those up to each of them
begins_at : (ts : List Token) (k : ℕ) (xs : List ItemTree) → spell xs ≡ ts → (k < length ts) ⊎ (k ≡ length ts) → BeginsWith ts k xs
begins_at ts k xs same (inl less) = inl (less, ap (take (suc k)) same)
begins_at ts k xs same (inr equal) = inr (equal, same)

begins : (ts : List Token) (k : ℕ) (xs : List ItemTree) → k ≤ length ts → spell xs ≡ ts → BeginsWith ts k xs
begins ts k xs within same = begins_at ts k xs same (less_or_same k (length ts) within)

nests : (k : ℕ) (ts : List Token) → NestsAtMost 100 ts → IsFirstNested ts k → ⊥
nests k ts nested is = let most = nested (suc k) in let more = is.more in omega arith

-- the tokens of a program within the limits have none that doesn't fit, and none that passes a limit
pub all_fit : (f : TokenFault) (k : ℕ) (ts : List Token) (xs : List ItemTree) → Shape xs → WithinLimits xs → spell xs ≡ ts → IsTokenFault f ts k → ⊥
all_fit fault.Syntax k ts xs shape limits same is = is.none xs shape (begins ts k xs is.within same)
all_fit fault.Nested k ts xs shape limits same is = nests k (spell xs) limits.brackets (subst (λ us. IsFirstNested us k) (sym same) is)

pub none_passes : (k : ℕ) (ts : List Token) (xs : List ItemTree) → Shape xs → WithinLimits xs → spell xs ≡ ts → NoneWithinLimitsBegins ts k → ⊥
none_passes k ts xs shape limits same is = is.none xs shape limits.few limits.shallow (begins ts k xs is.within same)
