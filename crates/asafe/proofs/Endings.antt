-- What the command's ending says of the text, of the status and of what is printed.
use Rattle.std.proofs.Common.{◌≡◌, ◌∙◌, ap, refl, sym, subst, ℕ, ◌<◌, ◌≤◌, inl, inr, Bool, List, length, Option, Some, None, Ok, Err, Result, string_bytes, unwrap_or, arith}
use Rattle.base_core.specs.Contents.{Contents, text_of}
use Rattle.base_core.specs.Limits.{most_bytes}
use Rattle.base_core.specs.declared.place.Place.{Place}
use Rattle.base_core.specs.declared.token.Token.{Token}
use Rattle.c_lexer.specs.FaultFile.{fault_file, file_named}
use Rattle.c_lexer.specs.Faults.{place_of, kind_of}
use Rattle.c_lexer.specs.Lexis.{Gives, Lexis, lexis}
use Rattle.c_lexer.specs.declared.fault.LexFault.{LexFault}
use Rattle.c_lexer.specs.declared.fault.LexFault.TheVariants as lex
use Rattle.c_tree.specs.Spelling.{spell}
use Rattle.command_words.specs.Jobs.{Asked, certify, check, show, table, generate}
use Rattle.asafe.specs.declared.status.Status.{Status}
use Rattle.asafe.specs.declared.status.Status.TheVariants.{Yes, Refused, Usage, Text, ReadFault, WriteFault, NoMemory, TooLarge, NotYet}
use Rattle.asafe.specs.declared.ending.Ending.{Ending}
use Rattle.asafe.specs.declared.ending.Ending.TheVariants as ending
use Rattle.asafe.specs.declared.token_fault.TokenFault.{TokenFault}
use Rattle.asafe.specs.declared.token_fault.TokenFault.TheVariants as token
use Rattle.asafe.specs.Answers.{Ends, FileEnds, Says, TellsFault}
use Rattle.asafe.specs.Ending.{ending_status}
use Rattle.asafe.specs.Ends.{IsTooLargeOrFault, IsDecidedOrFault}
use Rattle.asafe.specs.FaultLine.{IsFaultLine, IsKind, fault_line, place_at, token_fault_kind, token_fault_line}
use Rattle.asafe.specs.Text.{HasFault, HasTokens, IsInSubset, IsTokenFault, IsShort, IsSmall, IsTooLarge}
use Rattle.asafe.specs.Words.{HasText, certified}
use Rattle.asafe.proofs.Texts.{tokens_only, all_fit, none_passes}

-- ---- the lines of faults

known : (fault : LexFault) (place : Place) → place_of fault ≡ Some place → IsKind (kind_of fault)
known (lex.BadByte p) place at = inl refl
known (lex.OpenComment p) place at = inr (inl refl)
known (lex.OpenLiteral p) place at = inr (inr (inl refl))
known (lex.NumberTooLarge p) place at = inr (inr (inr (inl refl)))
known (lex.Directive p) place at = inr (inr (inr (inr (inl refl))))
known lex.NoMemory place at = let clash : ◌≡◌ {A = Option Place} None (Some place) = at in absurd cc

known_token : (fault : TokenFault) → IsKind (token_fault_kind fault)
known_token token.Syntax = inr (inr (inr (inr (inr (inl refl)))))
known_token token.Nested = inr (inr (inr (inr (inr (inr refl)))))

first_fault : (fault : LexFault) (place : Place) (read : Result Lexis LexFault) → place_of fault ≡ Some place → Gives (Err fault) read → read ≡ Err fault
first_fault (lex.BadByte p) place read at gives = gives
first_fault (lex.OpenComment p) place read at gives = gives
first_fault (lex.OpenLiteral p) place read at gives = gives
first_fault (lex.NumberTooLarge p) place read at gives = gives
first_fault (lex.Directive p) place read at gives = gives
first_fault lex.NoMemory place read at gives = let clash : ◌≡◌ {A = Option Place} None (Some place) = at in absurd cc

pub fault_told : (file text line : List ℕ) (fault : LexFault) (place : Place) → Some place ≡ place_of fault → Gives (Err fault) (lexis text)
    → line ≡ fault_line file text place (kind_of fault) → IsFaultLine line × TellsFault file text line
fault_told file text line fault place at gives is = (
  record { file = unwrap_or (fault_file text) file; place = place; kind = kind_of fault; known = known fault place (sym at); is = is },
  inl (record { fault = fault; first = first_fault fault place (lexis text) (sym at) gives; place = place; at = sym at; line_is = is }),
)

pub token_fault_told : (file text line : List ℕ) (fault : TokenFault) (read : Lexis) (k : ℕ) → lexis text ≡ Ok read → IsTokenFault fault read.tokens k
    → line ≡ token_fault_line file fault read k → IsFaultLine line × TellsFault file text line
token_fault_told file text line fault read k lexed cause is = (
  record {
    file = unwrap_or (file_named read.files (place_at read k).file) file;
    place = place_at read k;
    kind = token_fault_kind fault;
    known = known_token fault;
    is = is;
  },
  inr (record { fault = fault; read = read; token = k; has = record { lexed = lexed; cause = cause }; line_is = is }),
)

-- ---- texts in the subset

no_fault : (text : List ℕ) (ts : List Token) (fault : LexFault) → HasTokens text ts → lexis text ≡ Err fault → ⊥
no_fault text ts fault has faulty = let clash : ◌≡◌ {A = Result Lexis LexFault} (Ok has.0) (Err fault) = sym has.1 ∙ faulty in cc

not_faulty : (text : List ℕ) → IsInSubset text → HasFault text → ⊥
not_faulty text is (inl first) = no_fault text (spell is.items) first.0 is.spells.tokens first.1
not_faulty text is (inr later) =
    let same = tokens_only text later.1 (spell is.items) later.3.lexed is.spells.tokens in
    all_fit later.0 later.2 later.1.tokens is.items is.spells.shape is.limits same later.3.cause

not_too_large : (text : List ℕ) → IsInSubset text → IsTooLarge text → ⊥
not_too_large text is (inl long) = let short = is.short in omega arith
not_too_large text is (inr passes) =
    let same = tokens_only text passes.read (spell is.items) passes.lexed is.spells.tokens in
    none_passes passes.token passes.read.tokens is.items is.spells.shape is.limits same passes.cause

pub decided : (text : List ℕ) (s : Status) → Says text s → IsInSubset text → IsDecidedOrFault s
decided text Yes says is = tt
decided text Refused says is = tt
decided text NotYet says is = tt
decided text ReadFault says is = tt
decided text WriteFault says is = tt
decided text NoMemory says is = tt
decided text Text says is = absurd (not_faulty text is says.1)
decided text TooLarge says is = absurd (not_too_large text is says)
decided text Usage says is = absurd says

-- ---- texts that are too long, and small ones

not_short : (text : List ℕ) → IsShort text → most_bytes < length text → ⊥
not_short text short long = omega (arith, short, long)

pub too_long : (text : List ℕ) (s : Status) → Says text s → most_bytes < length text → IsTooLargeOrFault s
too_long text Yes says long = absurd (not_short text says.0 long)
too_long text Refused says long = absurd (not_short text says.0 long)
too_long text NotYet says long = absurd (not_short text says.0 long)
too_long text Text says long = absurd (not_short text says.0 long)
too_long text ReadFault says long = tt
too_long text WriteFault says long = tt
too_long text NoMemory says long = tt
too_long text TooLarge says long = tt
too_long text Usage says long = absurd says

same_ok : (a b : Lexis) → ◌≡◌ {A = Result Lexis LexFault} (Ok a) (Ok b) → a ≡ b
same_ok a b same = cc

few_tokens : (ts us : List Token) (k : ℕ) → us ≡ ts → k ≤ length us → 900 ≤ k → length ts < 900 → ⊥
few_tokens ts us k same within late few = let size = ap length same in omega (arith, size, within, late, few)

pub not_small : (text : List ℕ) → IsTooLarge text → IsSmall text → ⊥
not_small text (inl long) small = not_short text small.short long
not_small text (inr passes) small =
    few_tokens small.read.tokens passes.read.tokens passes.token (ap (λ (l : Lexis). l.tokens) (same_ok passes.read small.read (sym passes.lexed ∙ small.lexed)))
    passes.cause.within passes.cause.late small.few

-- ---- a file to certify

has_fault : (file text line : List ℕ) → TellsFault file text line → HasFault text
has_fault file text line (inl tells) = inl (tells.fault, tells.first)
has_fault file text line (inr tells) = inr (tells.fault, tells.read, tells.token, tells.has)

says_file : (file text : List ℕ) (json : Bool) (contents : Contents) (b a : ℕ) (e : Ending) → FileEnds file json contents b a e → text_of contents file ≡ Some text → Says text (ending_status e)
says_file file text json contents b a (ending.Accepted as_json) ends held = ends.1 text held
says_file file text json contents b a ending.Refused ends held = ends text held
says_file file text json contents b a (ending.Listed list) ends held = absurd ends
says_file file text json contents b a ending.Usage ends held = absurd ends
says_file file text json contents b a (ending.Faulty line) ends held = let has = ends.1 text held in (has.0, has_fault file text (string_bytes line) has.1)
says_file file text json contents b a (ending.Unread line) ends held = tt
says_file file text json contents b a ending.NoMemory ends held = tt
says_file file text json contents b a (ending.TooLarge line) ends held = ends.1 text held
says_file file text json contents b a ending.NotYet ends held = ends text held

same_some : (p q : List ℕ × Bool) → ◌≡◌ {A = Option (List ℕ × Bool)} (Some p) (Some q) → p ≡ q
same_some p q same = cc

not_some : (p : List ℕ × Bool) → ◌≡◌ {A = Option (List ℕ × Bool)} None (Some p) → ⊥
not_some p same = cc

pub ends_file : (job : Option Asked) (file : List ℕ) (json : Bool) (contents : Contents) (b a : ℕ) (e : Ending) → certified job ≡ Some (file, json) → Ends job contents b a e
    → FileEnds file json contents b a e
ends_file None file json contents b a e asks ends = absurd (not_some (file, json) asks)
ends_file (Some (certify f rules depth None j)) file json contents b a e asks ends =
    subst (λ (p : List ℕ × Bool). FileEnds p.0 p.1 contents b a e) (same_some (f, j) (file, json) asks) ends
ends_file (Some (certify f rules depth (Some out) j)) file json contents b a e asks ends = absurd (not_some (file, json) asks)
ends_file (Some (check f certificate rules)) file json contents b a e asks ends = absurd (not_some (file, json) asks)
ends_file (Some (show f)) file json contents b a e asks ends = absurd (not_some (file, json) asks)
ends_file (Some table) file json contents b a e asks ends = absurd (not_some (file, json) asks)
ends_file (Some (generate n)) file json contents b a e asks ends = absurd (not_some (file, json) asks)

pub says : (job : Option Asked) (contents : Contents) (b a : ℕ) (e : Ending) (text : List ℕ) → Ends job contents b a e → HasText job contents text → Says text (ending_status e)
says job contents b a e text ends has =
    says_file has.file text has.certifies.json contents b a e (ends_file job has.file has.certifies.json contents b a e has.certifies.asked ends) has.held

-- the same of the status that is answered
pub says_as : (job : Option Asked) (contents : Contents) (b a : ℕ) (e : Ending) (result s : Status) (text : List ℕ) → Ends job contents b a e → result ≡ ending_status e → result ≡ s
    → HasText job contents text → Says text s
says_as job contents b a e result s text ends is same has = subst (Says text) (sym is ∙ same) (says job contents b a e text ends has)
