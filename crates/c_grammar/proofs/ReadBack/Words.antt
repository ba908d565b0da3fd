-- The specifiers of a type are read.
use Rattle.std.proofs.Common.{◌≡◌, ◌≢◌, ℕ, Bool, true, false, List, [], ◌∷◌, ◌++◌, Option, Some, None, refl, sym, ap, subst, ◌∙◌, append_assoc, append-nil}
use Rattle.c_tree.specs.Tree.{Name, Specifiers, no_specifiers, specifiers, Specifier, const_word, volatile_word, void_word, char_word, short_word, int_word, long_word, signed_word, unsigned_word, type_name, struct_tag, struct_of, enum_tag, enum_of, Members, Enumerators}
use Rattle.c_tree.specs.Marks.{Tokens, name_token}
use Rattle.c_tree.specs.TypeWords.{IsTypeName, words_of, type_words, is_one_type}
use Rattle.c_tree.specs.declared.type_word.TypeWord.{TypeWord}
use Rattle.c_tree.specs.declared.type_word.TypeWord.TheVariants as tw
use Rattle.c_tree.specs.ExpressionShape.{HasMember, HasEnumerator}
use Rattle.c_grammar.specs.declared.kind.Kind.{Kind}
use Rattle.c_grammar.specs.declared.kind.Kind.TheVariants as k
use Rattle.c_grammar.specs.Kind.{kind, token_of, IsFixed}
use Rattle.c_grammar.specs.Body.{got, done}
use Rattle.c_grammar.specs.Rules.{NameEnvironment, Reads, start_of, is_start, specifiers_by, ends_type, struct_body_by, enum_body_by, all_specifiers, a_struct, an_enum, qualifier_of, keyword_of, type_word}
use Rattle.c_grammar.specs.declared.start.Start.{Start}
use Rattle.c_grammar.specs.declared.start.Start.TheVariants as sp
use Rattle.c_grammar.specs.declared.start.TypeKeyword.{TypeKeyword}
use Rattle.c_grammar.specs.declared.start.TypeKeyword.TheVariants as kw
use Rattle.c_tree.specs.declared.tree.Qual.{Qual}
use Rattle.c_tree.specs.declared.tree.Qual.TheVariants as q
use Rattle.c_grammar.proofs.Onto.{onto_specifiers, onto_specifier}
use Rattle.c_grammar.proofs.Parse.{parse}
use Rattle.c_grammar.proofs.KindLemmas.{kind_at, kind_name, kind_type}
use Rattle.c_grammar.proofs.WordLemmas.{first_words}
use Rattle.c_grammar.proofs.Runs.{Runs, ran, run_done, run_look, run_seen, run_at, run_take, run_spend, run_call, run_then, run_naming}
use Rattle.c_grammar.proofs.ReadBack.Tree.{ReadsSpecifiers, ReadsSpecifier, ReadsMembers, ReadsEnumerators}

-- no text begins with two kinds
pub other_kind : (types : List Name) (ts : Tokens) (e f : Kind) → kind types ts ≡ e → e ≢ f → kind types ts ≢ f
other_kind types ts e f is differ = λ q. differ (sym is ∙ q)

-- no specifier begins with a brace
specifier_brace : (w : Specifier) (r : Tokens) → kind [] (onto_specifier w r) ≢ k.OpenBrace
specifier_brace const_word r = other_kind [] _ k.Const k.OpenBrace (kind_at [] k.Const [] r tt) (λ q. cc)
specifier_brace volatile_word r = other_kind [] _ k.Volatile k.OpenBrace (kind_at [] k.Volatile [] r tt) (λ q. cc)
specifier_brace void_word r = other_kind [] _ k.Void k.OpenBrace (kind_at [] k.Void [] r tt) (λ q. cc)
specifier_brace char_word r = other_kind [] _ k.Char k.OpenBrace (kind_at [] k.Char [] r tt) (λ q. cc)
specifier_brace short_word r = other_kind [] _ k.Short k.OpenBrace (kind_at [] k.Short [] r tt) (λ q. cc)
specifier_brace int_word r = other_kind [] _ k.Int k.OpenBrace (kind_at [] k.Int [] r tt) (λ q. cc)
specifier_brace long_word r = other_kind [] _ k.Long k.OpenBrace (kind_at [] k.Long [] r tt) (λ q. cc)
specifier_brace signed_word r = other_kind [] _ k.Signed k.OpenBrace (kind_at [] k.Signed [] r tt) (λ q. cc)
specifier_brace unsigned_word r = other_kind [] _ k.Unsigned k.OpenBrace (kind_at [] k.Unsigned [] r tt) (λ q. cc)
specifier_brace (type_name n) r = other_kind [] _ k.Name k.OpenBrace (kind_name [] n r refl) (λ q. cc)
specifier_brace (struct_tag n) r = other_kind [] _ k.Struct k.OpenBrace (kind_at [] k.Struct [] _ tt) (λ q. cc)
specifier_brace (struct_of n ms) r = other_kind [] _ k.Struct k.OpenBrace (kind_at [] k.Struct [] _ tt) (λ q. cc)
specifier_brace (enum_tag n) r = other_kind [] _ k.Enum k.OpenBrace (kind_at [] k.Enum [] _ tt) (λ q. cc)
specifier_brace (enum_of n es c) r = other_kind [] _ k.Enum k.OpenBrace (kind_at [] k.Enum [] _ tt) (λ q. cc)

specifiers_brace : (xs : Specifiers) (r : Tokens) → kind [] r ≢ k.OpenBrace → kind [] (onto_specifiers xs r) ≢ k.OpenBrace
specifiers_brace no_specifiers r h = h
specifiers_brace (specifiers w ws) r h = specifier_brace w (onto_specifiers ws r)

-- the specifiers by their next token
specifiers_at : (t : NameEnvironment) (d : ℕ) (b : Bool) (ws : List TypeWord) (ts : Tokens) (xs : Specifiers) (r : Tokens) (e : Kind) (i : Option Start) → kind t.types ts ≡ e → start_of e ≡ i → Runs false 1 (specifiers_by t d b ws i) ts (got xs r tt) →
    parse (all_specifiers t d b ws) ts ≡ got xs r tt
specifiers_at t d b ws ts xs r e i is of h =
    let f : Option Start → Reads Specifiers = λ j. specifiers_by t d b ws j in
    ran (all_specifiers t d b ws) ts (got xs r tt) (run_seen (ap f (ap start_of is ∙ of)) h)

no_start : (t : NameEnvironment) (d : ℕ) (b : Bool) (ws : List TypeWord) (i : Option Start) → is_start i ≡ false → specifiers_by t d b ws i ≡ ends_type ws
no_start t d b ws None h = refl
no_start t d b ws (Some (sp.Qualifier x)) h = absurd (cc)
no_start t d b ws (Some (sp.Keyword x)) h = absurd (cc)
no_start t d b ws (Some sp.TypeName) h = absurd (cc)
no_start t d b ws (Some sp.Struct) h = absurd (cc)
no_start t d b ws (Some sp.Enum) h = absurd (cc)

struct_ends : (t : NameEnvironment) (d : ℕ) (n : Name) (e : Kind) → e ≢ k.OpenBrace → struct_body_by t d n e ≡ done (struct_tag n)
struct_ends t d n k.OpenBrace h = absurd (h refl)
struct_ends t d n _ h = refl

enum_ends : (t : NameEnvironment) (d : ℕ) (n : Name) (e : Kind) → e ≢ k.OpenBrace → enum_body_by t d n e ≡ done (enum_tag n)
enum_ends t d n k.OpenBrace h = absurd (h refl)
enum_ends t d n _ h = refl

module _ (t : NameEnvironment) where
  -- the end of specifiers is read
  pub no_specifiers_reads : ReadsSpecifiers t no_specifiers
  no_specifiers_reads = record {
    all = λ d b ws r one ends.
        ran (all_specifiers t d b ws) r (got no_specifiers r tt)
        (run_seen (no_start t d b ws (start_of (kind t.types r)) ends.0) (run_then _ (ap is_one_type (sym (append-nil ws)) ∙ one) (run_done refl)));
  }

  -- a specifier and those behind it are read
  pub specifiers_reads : (w : Specifier) (xs : Specifiers) → ReadsSpecifier t w → ReadsSpecifiers t xs → ReadsSpecifiers t (specifiers w xs)
  specifiers_reads w xs hw hxs = record {
    all = λ d b ws r one ends.
        hw.first d b ws (onto_specifiers xs r) xs r one (specifiers_brace xs r ends.1)
        (λ c. hxs.all d c (ws ++ words_of w) r (ap is_one_type (append_assoc ws (words_of w) (type_words xs)) ∙ one) ends);
  }

  qualifier : (d : ℕ) (b : Bool) (ws : List TypeWord) (us : Tokens) (xs : Specifiers) (r : Tokens) (e : Kind) (x : Qual) → IsFixed e → start_of e ≡ Some (sp.Qualifier x) →
      ((c : Bool) → parse (all_specifiers t d c (ws ++ [])) us ≡ got xs r tt) → parse (all_specifiers t d b ws) (token_of e [] ∷ us) ≡ got (specifiers (qualifier_of x) xs) r tt
  qualifier d b ws us xs r e x fixed of h =
      specifiers_at t d b ws _ (specifiers (qualifier_of x) xs) r e (Some (sp.Qualifier x)) (kind_at t.types e [] us fixed) of
      (run_take (run_call refl (subst (λ v. parse (all_specifiers t d b v) us ≡ got xs r tt) (append-nil ws) (h b)) (run_done refl)))

  -- the word const is read
  pub const_reads : ReadsSpecifier t const_word
  const_reads = record { first = λ d b ws us xs r one brace h. qualifier d b ws us xs r k.Const q.Const tt refl h }

  -- the word volatile is read
  pub volatile_reads : ReadsSpecifier t volatile_word
  volatile_reads = record { first = λ d b ws us xs r one brace h. qualifier d b ws us xs r k.Volatile q.Volatile tt refl h }

  word : (d : ℕ) (b : Bool) (ws : List TypeWord) (us : Tokens) (xs : Specifiers) (r : Tokens) (e : Kind) (x : TypeKeyword) → IsFixed e → start_of e ≡ Some (sp.Keyword x) →
      is_one_type (ws ++ type_word x ∷ type_words xs) ≡ true → ((c : Bool) → parse (all_specifiers t d c (ws ++ type_word x ∷ [])) us ≡ got xs r tt) → parse (all_specifiers t d b ws) (token_of e [] ∷ us) ≡ got (specifiers (keyword_of x) xs) r tt
  word d b ws us xs r e x fixed of one h =
      specifiers_at t d b ws _ (specifiers (keyword_of x) xs) r e (Some (sp.Keyword x)) (kind_at t.types e [] us fixed) of
      (run_then _ (first_words ws (type_word x) (type_words xs) one) (run_naming b d (run_take (run_call refl (h false) (run_done refl)))))

  -- the word void is read
  pub void_reads : ReadsSpecifier t void_word
  void_reads = record { first = λ d b ws us xs r one brace h. word d b ws us xs r k.Void kw.Void tt refl one h }

  -- the word char is read
  pub char_reads : ReadsSpecifier t char_word
  char_reads = record { first = λ d b ws us xs r one brace h. word d b ws us xs r k.Char kw.Char tt refl one h }

  -- the word short is read
  pub short_reads : ReadsSpecifier t short_word
  short_reads = record { first = λ d b ws us xs r one brace h. word d b ws us xs r k.Short kw.Short tt refl one h }

  -- the word int is read
  pub int_reads : ReadsSpecifier t int_word
  int_reads = record { first = λ d b ws us xs r one brace h. word d b ws us xs r k.Int kw.Int tt refl one h }

  -- the word long is read
  pub long_reads : ReadsSpecifier t long_word
  long_reads = record { first = λ d b ws us xs r one brace h. word d b ws us xs r k.Long kw.Long tt refl one h }

  -- the word signed is read
  pub signed_reads : ReadsSpecifier t signed_word
  signed_reads = record { first = λ d b ws us xs r one brace h. word d b ws us xs r k.Signed kw.Signed tt refl one h }

  -- the word unsigned is read
  pub unsigned_reads : ReadsSpecifier t unsigned_word
  unsigned_reads = record { first = λ d b ws us xs r one brace h. word d b ws us xs r k.Unsigned kw.Unsigned tt refl one h }

  -- the name of a type is read
  pub type_name_reads : (n : Name) → IsTypeName t.types n → ReadsSpecifier t (type_name n)
  type_name_reads n known = record {
    first = λ d b ws us xs r one brace h.
        specifiers_at t d b ws _ (specifiers (type_name n) xs) r k.TypeName (Some sp.TypeName) (kind_type t.types n us known) refl
        (run_then _ (first_words ws tw.Whole (type_words xs) one) (run_naming b d (run_take (run_call refl (h false) (run_done refl)))));
  }

  -- behind the word struct
  struct_first : (d : ℕ) (b : Bool) (ws : List TypeWord) (ts us : Tokens) (xs : Specifiers) (r : Tokens) (x : Specifier) → is_one_type (ws ++ tw.Whole ∷ type_words xs) ≡ true →
      parse (a_struct t d) ts ≡ got x us tt → ((c : Bool) → parse (all_specifiers t d c (ws ++ tw.Whole ∷ [])) us ≡ got xs r tt) → parse (all_specifiers t d b ws) (token_of k.Struct [] ∷ ts) ≡ got (specifiers x xs) r tt
  struct_first d b ws ts us xs r x one inside h =
      specifiers_at t d b ws _ (specifiers x xs) r k.Struct (Some sp.Struct) (kind_at t.types k.Struct [] ts tt) refl
      (run_then _ (first_words ws tw.Whole (type_words xs) one) (run_take (run_call refl inside (run_call refl (h false) (run_done refl)))))

  -- the tag of a struct is read
  pub struct_tag_reads : (n : Name) → ReadsSpecifier t (struct_tag n)
  struct_tag_reads n = record {
    first = λ d b ws us xs r one brace h.
        struct_first d b ws (name_token n ∷ us) us xs r (struct_tag n) one
        (ran (a_struct t d) (name_token n ∷ us) (got (struct_tag n) us tt) (run_look k.Name (kind_name [] n us refl) (run_take (run_seen (struct_ends t d n (kind [] us) brace) (run_done refl))))) h;
  }

  -- a struct with its members is read
  pub struct_of_reads : (n : Option Name) (ms : Members) → HasMember ms → ReadsMembers t ms → ReadsSpecifier t (struct_of n ms)
  struct_of_reads None ms some hm = record {
    first = λ d b ws us xs r one brace h.
        struct_first d b ws _ us xs r (struct_of None ms) one
        (ran (a_struct t d) _ (got (struct_of None ms) us tt) (run_at k.OpenBrace tt (run_spend (run_take (run_call refl (hm.all d us some) (run_done refl)))))) h;
  }
  struct_of_reads (Some n) ms some hm = record {
    first = λ d b ws us xs r one brace h.
        struct_first d b ws _ us xs r (struct_of (Some n) ms) one
        (ran (a_struct t d) _ (got (struct_of (Some n) ms) us tt)
        (run_look k.Name (kind_name [] n _ refl) (run_take (run_at k.OpenBrace tt (run_spend (run_take (run_call refl (hm.all d us some) (run_done refl)))))))) h;
  }

  -- behind the word enum
  enum_first : (d : ℕ) (b : Bool) (ws : List TypeWord) (ts us : Tokens) (xs : Specifiers) (r : Tokens) (x : Specifier) → is_one_type (ws ++ tw.Whole ∷ type_words xs) ≡ true →
      parse (an_enum t d) ts ≡ got x us tt → ((c : Bool) → parse (all_specifiers t d c (ws ++ tw.Whole ∷ [])) us ≡ got xs r tt) → parse (all_specifiers t d b ws) (token_of k.Enum [] ∷ ts) ≡ got (specifiers x xs) r tt
  enum_first d b ws ts us xs r x one inside h =
      specifiers_at t d b ws _ (specifiers x xs) r k.Enum (Some sp.Enum) (kind_at t.types k.Enum [] ts tt) refl
      (run_then _ (first_words ws tw.Whole (type_words xs) one) (run_take (run_call refl inside (run_call refl (h false) (run_done refl)))))

  -- the tag of an enum is read
  pub enum_tag_reads : (n : Name) → ReadsSpecifier t (enum_tag n)
  enum_tag_reads n = record {
    first = λ d b ws us xs r one brace h.
        enum_first d b ws (name_token n ∷ us) us xs r (enum_tag n) one
        (ran (an_enum t d) (name_token n ∷ us) (got (enum_tag n) us tt) (run_look k.Name (kind_name [] n us refl) (run_take (run_seen (enum_ends t d n (kind [] us) brace) (run_done refl))))) h;
  }

  -- an enum with its enumerators is read
  pub enum_of_reads : (n : Option Name) (es : Enumerators) (c : Bool) → HasEnumerator es → ReadsEnumerators t es → ReadsSpecifier t (enum_of n es c)
  enum_of_reads None es c some he = record {
    first = λ d b ws us xs r one brace h.
        enum_first d b ws _ us xs r (enum_of None es c) one
        (ran (an_enum t d) _ (got (enum_of None es c) us tt) (run_at k.OpenBrace tt (run_spend (run_take (run_call refl (he.all d c us some) (run_done refl)))))) h;
  }
  enum_of_reads (Some n) es c some he = record {
    first = λ d b ws us xs r one brace h.
        enum_first d b ws _ us xs r (enum_of (Some n) es c) one
        (ran (an_enum t d) _ (got (enum_of (Some n) es c) us tt)
        (run_look k.Name (kind_name [] n _ refl) (run_take (run_at k.OpenBrace tt (run_spend (run_take (run_call refl (he.all d c us some) (run_done refl)))))))) h;
  }
