-- The tokens of a flat program, in order (C11 6.4, 6.7 to 6.9, cut to this form).
use Rattle.std.specs.Prelude.{ℕ, ◌-◌, List, [], ◌∷◌, ◌++◌, codes, slice_get, unwrap_or}
use Rattle.base_core.specs.declared.token.Class.TheVariants.{Keyword, Name, Integer, Punctuator}
use Rattle.base_core.specs.declared.token.Token.{Token}
use Rattle.base_core.specs.Signal.{signal_names}
use Rattle.flat_programs.specs.declared.flat.LibraryFunction.{LibraryFunction}
use Rattle.flat_programs.specs.declared.flat.LibraryFunction.TheVariants.{Abort, Getpid, Pause, Rand}
use Rattle.flat_programs.specs.declared.flat.Statement.{Statement}
use Rattle.flat_programs.specs.declared.flat.Statement.TheVariants.{Call, Install}
use Rattle.flat_programs.specs.FlatTree.{HandlerTree, FlatTree}

abbrev pub keyword : List ℕ → Token
keyword text = record { class = Keyword; lexeme = text }

abbrev pub name : List ℕ → Token
name text = record { class = Name; lexeme = text }

abbrev pub mark : List ℕ → Token
mark text = record { class = Punctuator; lexeme = text }

abbrev pub integer : List ℕ → Token
integer text = record { class = Integer; lexeme = text }

abbrev pub function_name : LibraryFunction → List ℕ
function_name Abort = codes "abort"
function_name Getpid = codes "getpid"
function_name Pause = codes "pause"
function_name Rand = codes "rand"

-- the name of the signal of this number, and no text where there is none
abbrev pub signal_name : ℕ → List ℕ
signal_name signal = unwrap_or (slice_get signal_names (signal - 1)) []

-- function ( ) ;
abbrev pub spell_call : LibraryFunction → List Token
spell_call f = name (function_name f) ∷ mark (codes "(") ∷ mark (codes ")") ∷ mark (codes ";") ∷ []

abbrev pub spell_calls : List LibraryFunction → List Token
spell_calls [] = []
spell_calls (f ∷ fs) = spell_call f ++ spell_calls fs

-- a call, or signal ( SIGNAL , handler ) ;
abbrev pub spell_statement : Statement → List Token
spell_statement (Call f) = spell_call f
spell_statement (Install signal handler) =
    name (codes "signal") ∷ mark (codes "(") ∷ name (signal_name signal) ∷ mark (codes ",") ∷ name (handler ∷ []) ∷ mark (codes ")") ∷ mark (codes ";") ∷ []

abbrev pub spell_statements : List Statement → List Token
spell_statements [] = []
spell_statements (s ∷ ss) = spell_statement s ++ spell_statements ss

-- void name ( int parameter ) { calls }
abbrev pub spell_handler : HandlerTree → List Token
spell_handler h =
    (keyword (codes "void") ∷ name (h.name ∷ []) ∷ mark (codes "(") ∷ keyword (codes "int") ∷ name (h.parameter ∷ []) ∷ mark (codes ")") ∷ mark (codes "{") ∷ [])
    ++ (spell_calls h.calls ++ mark (codes "}") ∷ [])

abbrev pub spell_handlers : List HandlerTree → List Token
spell_handlers [] = []
spell_handlers (h ∷ hs) = spell_handler h ++ spell_handlers hs

-- int main ( void ) { statements return 0 ; }
abbrev pub spell_main : List Statement → List Token
spell_main statements =
    (keyword (codes "int") ∷ name (codes "main") ∷ mark (codes "(") ∷ keyword (codes "void") ∷ mark (codes ")") ∷ mark (codes "{") ∷ [])
    ++ (spell_statements statements ++ keyword (codes "return") ∷ integer (codes "0") ∷ mark (codes ";") ∷ mark (codes "}") ∷ [])

-- the tokens of a flat program
abbrev pub spell : FlatTree → List Token
spell t = spell_handlers t.handlers ++ spell_main t.statements
