-- A call of a library function, by its row of the table (C11 7.1.4; POSIX.1-2017 XSH).
use Rattle.std.specs.Prelude.{ℕ, List, [], ◌∷◌, length, codes, nat_le, Bool, true, false, ◌&&◌, ◌||◌, if◌then◌else◌, Option, Some, None}
use Rattle.std.specs.List.{list_any}
use Rattle.std.specs.Str.{bytes_eq}
use Rattle.c_kinds.specs.Kind.{Kind, void, pointer, structure, kernel}
use Rattle.c_kinds.specs.Matching.{has_signature}
use Rattle.c_kinds.specs.declared.word.Word.TheVariants as w
use Rattle.posix_table.specs.declared.kind.Param.{Param}
use Rattle.posix_table.specs.declared.kind.Param.TheVariants as p
use Rattle.posix_table.specs.declared.kind.ResultKind.{ResultKind}
use Rattle.posix_table.specs.declared.kind.ResultKind.TheVariants as r
use Rattle.posix_table.specs.declared.row.Row.{Row}
use Rattle.c_rules.specs.declared.form.Constant.{Constant}
use Rattle.c_rules.specs.declared.misfit.MisfitKind.TheVariants.{WrongCount, KindMismatch}
use Rattle.c_rules.specs.Judgement.{Judgement, Operand, fails, kind, after_all}
use Rattle.c_rules.specs.Types.{char, long, handler, tm_number, is_int, is_object_pointer}
use Rattle.c_rules.specs.Values.{is_null, is_disposition}
use Rattle.c_rules.specs.Calls.{given}

-- ---- arguments

-- a function whose parameters and result have these outermost words, or a constant that stands for any
abbrev pub is_function_argument : Bool → Constant → Bool → Bool
is_function_argument may_be_null c has = has || is_disposition c || (may_be_null && is_null c)

-- an argument of this kind may stand at the mark
abbrev pub takes : Param → Constant → Kind → Bool
takes p.Int c k = is_int k
takes p.Null c k = is_null c
takes p.HandlerFn c k = is_function_argument true c (has_signature (w.Int ∷ []) w.Void k)
takes p.ThreadFn c k = is_function_argument false c (has_signature (w.Ptr ∷ []) w.Ptr k)
takes p.ForkFn c k = is_function_argument true c (has_signature [] w.Void k)
takes p.Either c k = is_int k || is_object_pointer k
takes p.More c k = is_int k || is_object_pointer k
takes _ c k = is_object_pointer k || is_null c

abbrev pub takes_operand : Param → Constant → Option Kind → Bool
takes_operand q c (Some k) = takes q c k
takes_operand q c None = true

-- the marks for what follows an argument at the first of them: the mark of any number stays
abbrev pub behind : Param → List Param → List Param
behind p.More ps = p.More ∷ ps
behind _ ps = ps

-- each argument may stand at its mark
abbrev pub take_all : List Param → List Operand → Bool
take_all ps [] = true
take_all [] (x ∷ xs) = false
take_all (q ∷ ps) (x ∷ xs) = takes_operand q x.form.constant (kind x.judged) && take_all (behind q ps) xs

-- so many arguments may be given
abbrev pub allows : Option ℕ → ℕ → Bool
allows (Some most) n = nat_le n most
allows None n = true

-- ---- the result

-- what the result points to, by the function's name
abbrev pub void_names : List (List ℕ)
void_names =
    codes "malloc" ∷ codes "calloc" ∷ codes "realloc" ∷ codes "memchr" ∷ codes "memcpy" ∷ codes "memmove" ∷ codes "memset" ∷ []

abbrev pub stream_names : List (List ℕ)
stream_names = codes "fopen" ∷ codes "popen" ∷ []

abbrev pub time_names : List (List ℕ)
time_names = codes "localtime" ∷ []

abbrev pub pointed_to : List ℕ → Kind
pointed_to name =
    if list_any (bytes_eq name) void_names then void
    else (if list_any (bytes_eq name) stream_names then kernel
    else (if list_any (bytes_eq name) time_names then structure tm_number else char))

abbrev pub result_kind : ResultKind → List ℕ → Kind
result_kind r.Int name = long
result_kind r.Nothing name = void
result_kind r.Never name = void
result_kind r.OldHandler name = handler
result_kind _ name = pointer (pointed_to name)

-- as many arguments as the row says, each at its mark
abbrev pub library_rule : Row → List Operand → Judgement
library_rule row xs =
    if nat_le row.fewest (length xs) && allows row.most (length xs)
    then (if take_all row.parameters xs then given xs (result_kind row.result row.name) else fails KindMismatch)
    else fails WrongCount

abbrev pub library_call : Row → List Operand → Judgement
library_call row xs = after_all xs (library_rule row xs)
