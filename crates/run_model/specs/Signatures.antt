-- Which functions may be handlers of signals (C11 7.14.1.1, POSIX.1-2017 XSH sigaction), start threads (XSH pthread_create) and be fork
-- handlers (XSH pthread_atfork).
use Rattle.std.specs.Prelude.{ℕ, List, [], ◌∷◌, Bool, true, false, ◌&&◌}
use Rattle.run_model.specs.Kinds.{Kind, Void, Number, Pointer}
use Rattle.run_model.specs.Code.{Code, Parameter, function, is_function}

abbrev pub kinds_of : List Parameter → List Kind
kinds_of [] = []
kinds_of (x ∷ xs) = x.kind ∷ kinds_of xs

abbrev pub are_of_handler : List Kind → Bool
are_of_handler (Number t ∷ []) = true
are_of_handler (Number t ∷ Pointer ∷ Pointer ∷ []) = true
are_of_handler _ = false

-- it takes (int), or (int, pointer, pointer)
abbrev pub takes_signal : Code → ℕ → Bool
takes_signal code f = is_function code f && are_of_handler (kinds_of (function code f).parameters)

abbrev pub is_one_pointer : List Kind → Bool
is_one_pointer (Pointer ∷ []) = true
is_one_pointer _ = false

abbrev pub is_pointer : Kind → Bool
is_pointer Pointer = true
is_pointer _ = false

-- it takes a pointer and returns one
abbrev pub starts_thread : Code → ℕ → Bool
starts_thread code f = is_function code f && is_one_pointer (kinds_of (function code f).parameters) && is_pointer (function code f).result

abbrev pub is_void : Kind → Bool
is_void Void = true
is_void _ = false

abbrev pub has_none : List Parameter → Bool
has_none [] = true
has_none _ = false

-- it takes nothing and returns nothing
abbrev pub handles_fork : Code → ℕ → Bool
handles_fork code f = is_function code f && has_none (function code f).parameters && is_void (function code f).result
