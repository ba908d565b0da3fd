-- What the rules of types count: specifiers, with the members of structs and the enumerators of enums.
use Rattle.std.proofs.Common.{◌≡◌, ℕ, ◌+◌, Bool, true, false, List, [], ◌∷◌, ◌++◌, length, refl, sym, ap, ◌∙◌, append_assoc, append-nil, arith, length-append, cond, Option, Some, None}
use Rattle.c_tree.specs.TypeWords.{is_one_type, words_of, type_words}
use Rattle.c_tree.specs.declared.type_word.TypeWord.{TypeWord}
use Rattle.c_tree.specs.declared.type_word.TypeWord.TheVariants as tw
use Rattle.c_tree.specs.Tree.{Name, Specifiers, specifiers, Specifier, const_word, volatile_word, type_name, struct_of, enum_of, enumerator}
use Rattle.c_tree.specs.Nodes.{Node, nodes_specifier}
use Rattle.c_tree.specs.Depth.{depth_specifier}
use Rattle.c_tree.specs.Marks.{Tokens}
use Rattle.c_grammar.specs.declared.kind.Kind.{Kind}
use Rattle.c_grammar.specs.declared.kind.Kind.TheVariants as k
use Rattle.c_grammar.specs.Body.{done}
use Rattle.c_grammar.specs.Body as body
use Rattle.c_grammar.specs.Gauge.{Meter}
use Rattle.c_grammar.specs.Rules.{NameEnvironment, Reads, start_of, begins_type, ends_type, with_word, specifiers_by, struct_body_by, struct_by, more_members_by, more_declarators_by, enum_body_by, enum_by, enumerator_by, next_enumerator_by, more_enumerators_by, a_type, all_specifiers, a_struct, all_members, more_members, all_declarators, more_declarators, an_enum, all_enumerators, more_enumerators, qualifier_of, keyword_of, type_word}
use Rattle.c_grammar.specs.declared.start.Start.{Start}
use Rattle.c_grammar.specs.declared.start.Start.TheVariants as sp
use Rattle.c_grammar.proofs.Conditions.{go_done, go_stop, go_look, go_call, go_if}
use Rattle.c_grammar.proofs.Costs.Counting.{Costs, first_count, first_counts}
use Rattle.c_grammar.proofs.Costs.Steps.{Counts, Cost, pay, skips, wants, a_name_taken}
use Rattle.c_grammar.proofs.Costs.Numbers.{expression_deep, none_counts, tag_counts}

-- a type
pub type-cost : (t : NameEnvironment) (d : ℕ) → Cost (a_type t d)
type-cost t d ts m = go_call (λ ws us n p. go_call (λ x vs q h. go_done (λ before. let a = p before in let b = h (omega arith) in (omega (arith, length-append {A = Node}), omega arith))))

-- a specifier that is one word has no nodes; one that is no qualifier counts a name that has to follow
abbrev Simple : Option Start → Type 0
Simple (Some (sp.Qualifier x)) =
    let y = qualifier_of x in
    (length (nodes_specifier y) ≡ 0) × (depth_specifier y ≡ 0) × (words_of y ≡ []) × ((b : Bool) (xs : Specifiers) → first_counts b (specifiers y xs) ≡ first_counts b xs)
Simple (Some (sp.Keyword x)) =
    let y = keyword_of x in
    (length (nodes_specifier y) ≡ 0) × (depth_specifier y ≡ 0) × (words_of y ≡ type_word x ∷ []) × ((xs : Specifiers) → first_count (specifiers y xs) ≡ 1)
Simple _ = Unit {0}

const_counts : (b : Bool) (xs : Specifiers) → first_counts b (specifiers const_word xs) ≡ first_counts b xs
const_counts true xs = refl
const_counts false xs = refl

volatile_counts : (b : Bool) (xs : Specifiers) → first_counts b (specifiers volatile_word xs) ≡ first_counts b xs
volatile_counts true xs = refl
volatile_counts false xs = refl

simple_start : (e : Kind) → Simple (start_of e)
simple_start k.Const = (refl, refl, refl, const_counts)
simple_start k.Volatile = (refl, refl, refl, volatile_counts)
simple_start k.Void = (refl, refl, refl, λ xs. refl)
simple_start k.Char = (refl, refl, refl, λ xs. refl)
simple_start k.Short = (refl, refl, refl, λ xs. refl)
simple_start k.Int = (refl, refl, refl, λ xs. refl)
simple_start k.Long = (refl, refl, refl, λ xs. refl)
simple_start k.Signed = (refl, refl, refl, λ xs. refl)
simple_start k.Unsigned = (refl, refl, refl, λ xs. refl)
simple_start _ = tt

-- the words of the specifiers behind one go on with its own
behind : (ws vs : List TypeWord) (x : Specifier) (xs : Specifiers) → words_of x ≡ vs → is_one_type ((ws ++ vs) ++ type_words xs) ≡ true → is_one_type (ws ++ type_words (specifiers x xs)) ≡ true
behind ws vs x xs e h = sym (ap is_one_type (append_assoc ws vs (type_words xs) ∙ ap (λ us. ws ++ (us ++ type_words xs)) (sym e))) ∙ h

word-ends : (t : NameEnvironment) (d : ℕ) (b : Bool) (ws : List TypeWord) (ts : Tokens) (m : Meter) → Counts (ends_type ws) (Costs (all_specifiers t d b ws) ts m) ts m
word-ends t d b ws ts m = go_if {b = is_one_type ws} (λ yes. go_done (λ before. let none = none_counts b in (omega arith, omega arith, rw append-nil yes))) (λ no. go_stop)

word-more : (t : NameEnvironment) (d : ℕ) (b : Bool) (ws : List TypeWord) (w : TypeWord) (f : Reads Specifiers) (ts : Tokens) (m : Meter) → Counts f (Costs (all_specifiers t d b ws) ts m) ts m →
    Counts (with_word ws w f) (Costs (all_specifiers t d b ws) ts m) ts m
word-more t d b ws w f ts m h = go_if {b = is_one_type (ws ++ w ∷ [])} (λ yes. h) (λ no. word-ends t d b ws ts m)

specifiers-by : (t : NameEnvironment) (d : ℕ) (b : Bool) (ws : List TypeWord) (i : Option Start) (ts : Tokens) (m : Meter) → Simple i → Counts (specifiers_by t d b ws i) (Costs (all_specifiers t d b ws) ts m) ts m
specifiers-by t d b ws None ts m s = word-ends t d b ws ts m
specifiers-by t d b ws (Some (sp.Qualifier x)) ts m s = skips (λ _ us. go_call (λ xs vs n p. go_done (λ before.
    let a = p before in let none = s.0 in let flat = s.1 in let same = s.3 b xs in (omega (arith, length-append {A = Node}), omega arith, behind ws [] (qualifier_of x) xs s.2 (rw append-nil a.2)))))
specifiers-by t d true ws (Some (sp.Keyword x)) ts m s = word-more t d true ws (type_word x) _ ts m (pay (skips (λ _ us. go_call (λ xs vs n p. go_done (λ before.
    let a = p (omega arith) in let none = s.0 in let flat = s.1 in let one = s.3 xs in (omega (arith, length-append {A = Node}), omega arith, behind ws (type_word x ∷ []) (keyword_of x) xs s.2 a.2))))))
specifiers-by t d false ws (Some (sp.Keyword x)) ts m s = word-more t d false ws (type_word x) _ ts m (skips (λ _ us. go_call (λ xs vs n p. go_done (λ before.
    let a = p before in let none = s.0 in let flat = s.1 in (omega (arith, length-append {A = Node}), omega arith, behind ws (type_word x ∷ []) (keyword_of x) xs s.2 a.2)))))
specifiers-by t d true ws (Some sp.TypeName) ts m s = word-more t d true ws tw.Whole _ ts m (pay (skips (λ a us. go_call (λ xs vs n p. go_done (λ before.
    let c = p (omega arith) in (omega (arith, length-append {A = Node}), omega arith, behind ws (tw.Whole ∷ []) (type_name a) xs refl c.2))))))
specifiers-by t d false ws (Some sp.TypeName) ts m s = word-more t d false ws tw.Whole _ ts m (skips (λ a us. go_call (λ xs vs n p. go_done (λ before.
    let c = p before in (omega (arith, length-append {A = Node}), omega arith, behind ws (tw.Whole ∷ []) (type_name a) xs refl c.2)))))
specifiers-by t d b ws (Some sp.Struct) ts m s = word-more t d b ws tw.Whole _ ts m (skips (λ _ us. go_call (λ x vs q r. go_call (λ xs es n p. go_done (λ before.
    let a = r before in let c = p (omega arith) in let tag = tag_counts b x xs a.2 in (omega (arith, length-append {A = Node}), omega arith, behind ws (tw.Whole ∷ []) x xs tag.1 c.2))))))
specifiers-by t d b ws (Some sp.Enum) ts m s = word-more t d b ws tw.Whole _ ts m (skips (λ _ us. go_call (λ x vs q r. go_call (λ xs es n p. go_done (λ before.
    let a = r before in let c = p (omega arith) in let tag = tag_counts b x xs a.2 in (omega (arith, length-append {A = Node}), omega arith, behind ws (tw.Whole ∷ []) x xs tag.1 c.2))))))

-- specifiers
pub specifiers-cost : (t : NameEnvironment) (d : ℕ) (b : Bool) (ws : List TypeWord) → Cost (all_specifiers t d b ws)
specifiers-cost t d b ws ts m = go_look (λ e is. specifiers-by t d b ws (start_of e) ts m (simple_start e))

-- ---- structs

struct-members : (t : NameEnvironment) (d : ℕ) (n : Option Name) (ts us : Tokens) (m : Meter) → Counts (body.spend 1 (d + 1) (body.take (λ a. body.call (all_members t d) (λ ms. done (struct_of n ms))))) (Costs (a_struct t d) ts m) us m
struct-members t d n ts us m = pay (skips (λ _ vs. go_call (λ ms ws q h. go_done (λ before. let a = h (omega arith) in let deep = a.2 in (omega arith, omega arith, refl)))))

struct-body-by : (t : NameEnvironment) (d : ℕ) (n : Name) (e : Kind) (ts us : Tokens) (m : Meter) → Counts (struct_body_by t d n e) (Costs (a_struct t d) ts m) us m
struct-body-by t d n k.OpenBrace ts us m = struct-members t d (Some n) ts us m
struct-body-by t d n _ ts us m = go_done (λ before. (omega arith, omega arith, refl))

struct-by : (t : NameEnvironment) (d : ℕ) (e : Kind) (ts : Tokens) (m : Meter) → Counts (struct_by t d e) (Costs (a_struct t d) ts m) ts m
struct-by t d k.Name ts m = skips (λ n us. go_look (λ e is. struct-body-by t d n e ts us m))
struct-by t d k.OpenBrace ts m = struct-members t d None ts ts m
struct-by t d _ ts m = go_stop

-- a struct
pub struct-cost : (t : NameEnvironment) (d : ℕ) → Cost (a_struct t d)
struct-cost t d ts m = go_look (λ e is. struct-by t d e ts m)

-- members
pub members-cost : (t : NameEnvironment) (d : ℕ) → Cost (all_members t d)
members-cost t d ts m = go_call (λ ws us n p. go_call (λ cs vs o q. wants k.Semicolon (λ xs. go_call (λ ms ys z r. go_done (λ before.
    let a = p (omega arith) in let b = q (omega arith) in let c = r (omega arith) in let deep = b.2 in (omega (arith, length-append {A = Node}), omega arith, omega arith))))))

more-members-by-type : (t : NameEnvironment) (d : ℕ) (e : Kind) (ts : Tokens) (m : Meter) → Counts (cond (begins_type e) (body.spend 1 (d + 1) (body.call (all_members t d) done)) body.stop) (Costs (more_members t d) ts m) ts m
more-members-by-type t d e ts m = go_if {b = begins_type e} (λ yes. pay (go_call (λ ms us n p. go_done (λ before. let a = p (omega arith) in let deep = a.2 in (omega arith, omega arith))))) (λ no. go_stop)

more-members-by : (t : NameEnvironment) (d : ℕ) (e : Kind) (ts : Tokens) (m : Meter) → Counts (more_members_by t d e) (Costs (more_members t d) ts m) ts m
more-members-by t d k.CloseBrace ts m = skips (λ _ us. go_done (λ before. (omega arith, omega arith)))
more-members-by t d e ts m = more-members-by-type t d e ts m

-- more members
pub more-members-cost : (t : NameEnvironment) (d : ℕ) → Cost (more_members t d)
more-members-cost t d ts m = go_look (λ e is. more-members-by t d e ts m)

-- the declarators of a member
pub declarators-cost : (t : NameEnvironment) (d : ℕ) → Cost (all_declarators t d)
declarators-cost t d ts m = go_call (λ c us n p. go_call (λ cs vs q h. go_done (λ before. let a = p (omega arith) in let b = h (omega arith) in (omega (arith, length-append {A = Node}), omega arith, omega arith))))

more-declarators-by : (t : NameEnvironment) (d : ℕ) (e : Kind) (ts : Tokens) (m : Meter) → Counts (more_declarators_by t d e) (Costs (more_declarators t d) ts m) ts m
more-declarators-by t d k.Comma ts m = pay (skips (λ _ us. go_call (λ c vs n p. go_call (λ cs ws q h. go_done (λ before.
    let a = p (omega arith) in let b = h (omega arith) in (omega (arith, length-append {A = Node}), omega arith))))))
more-declarators-by t d _ ts m = go_done (λ before. (omega arith, omega arith))

-- more declarators
pub more-declarators-cost : (t : NameEnvironment) (d : ℕ) → Cost (more_declarators t d)
more-declarators-cost t d ts m = go_look (λ e is. more-declarators-by t d e ts m)

-- ---- enums

enum-members : (t : NameEnvironment) (d : ℕ) (n : Option Name) (ts us : Tokens) (m : Meter) → Counts (body.spend 1 (d + 1) (body.take (λ a. body.call (all_enumerators t d) (λ es. done (enum_of n es.0 es.1))))) (Costs (an_enum t d) ts m) us m
enum-members t d n ts us m = pay (skips (λ _ vs. go_call (λ es ws q h. go_done (λ before. let a = h (omega arith) in let deep = a.2 in (omega arith, omega arith, refl)))))

enum-body-by : (t : NameEnvironment) (d : ℕ) (n : Name) (e : Kind) (ts us : Tokens) (m : Meter) → Counts (enum_body_by t d n e) (Costs (an_enum t d) ts m) us m
enum-body-by t d n k.OpenBrace ts us m = enum-members t d (Some n) ts us m
enum-body-by t d n _ ts us m = go_done (λ before. (omega arith, omega arith, refl))

enum-by : (t : NameEnvironment) (d : ℕ) (e : Kind) (ts : Tokens) (m : Meter) → Counts (enum_by t d e) (Costs (an_enum t d) ts m) ts m
enum-by t d k.Name ts m = skips (λ n us. go_look (λ e is. enum-body-by t d n e ts us m))
enum-by t d k.OpenBrace ts m = enum-members t d None ts ts m
enum-by t d _ ts m = go_stop

-- an enum
pub enum-cost : (t : NameEnvironment) (d : ℕ) → Cost (an_enum t d)
enum-cost t d ts m = go_look (λ e is. enum-by t d e ts m)

enumerator-alone : (t : NameEnvironment) (d : ℕ) (n : Name) (ts us : Tokens) (m : Meter) → Counts (body.call (more_enumerators t d) (λ es. done (enumerator n es.0, es.1))) (Costs (all_enumerators t d) ts m) us m
enumerator-alone t d n ts us m = go_call (λ es vs q h. go_done (λ before. let a = h (omega arith) in (omega arith, omega arith, omega arith)))

enumerator-by : (t : NameEnvironment) (d : ℕ) (n : Name) (e : Kind) (ts us : Tokens) (m : Meter) → Counts (enumerator_by t d n e) (Costs (all_enumerators t d) ts m) us m
enumerator-by t d n k.Assign ts us m = pay (skips (λ _ vs. go_call (λ x ws q p. go_call (λ es xs r h. go_done (λ before.
    let a = h (omega arith) in let deep = expression_deep x in (omega (arith, length-append {A = Node}), omega arith, omega arith))))))
enumerator-by t d n _ ts us m = enumerator-alone t d n ts us m

-- enumerators
pub enumerators-cost : (t : NameEnvironment) (d : ℕ) → Cost (all_enumerators t d)
enumerators-cost t d ts m = a_name_taken (λ n us. go_look (λ e is. enumerator-by t d n e ts us m))

next-enumerator-by : (t : NameEnvironment) (d : ℕ) (e : Kind) (ts us : Tokens) (m : Meter) → Counts (next_enumerator_by t d e) (Costs (more_enumerators t d) ts m) us m
next-enumerator-by t d k.CloseBrace ts us m = skips (λ _ vs. go_done (λ before. (omega arith, omega arith)))
next-enumerator-by t d k.Name ts us m = pay (go_call (λ es vs n p. go_done (λ before. let a = p (omega arith) in let deep = a.2 in (omega arith, omega arith))))
next-enumerator-by t d _ ts us m = go_stop

more-enumerators-by : (t : NameEnvironment) (d : ℕ) (e : Kind) (ts : Tokens) (m : Meter) → Counts (more_enumerators_by t d e) (Costs (more_enumerators t d) ts m) ts m
more-enumerators-by t d k.CloseBrace ts m = skips (λ _ us. go_done (λ before. (omega arith, omega arith)))
more-enumerators-by t d k.Comma ts m = skips (λ _ us. go_look (λ e is. next-enumerator-by t d e ts us m))
more-enumerators-by t d _ ts m = go_stop

-- more enumerators
pub more-enumerators-cost : (t : NameEnvironment) (d : ℕ) → Cost (more_enumerators t d)
more-enumerators-cost t d ts m = go_look (λ e is. more-enumerators-by t d e ts m)
