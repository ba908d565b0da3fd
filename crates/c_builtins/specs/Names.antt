-- What the built-in names stand for in expressions. The choice of names is this project's own.
use Rattle.std.specs.Prelude.{ℕ, ◌+◌, List, [], ◌∷◌, ◌++◌, codes}
use Rattle.base_core.specs.Signal.{signal_names}
use Rattle.c_builtins.specs.declared.names.BuiltIn.{BuiltIn}
use Rattle.c_builtins.specs.declared.names.BuiltIn.TheVariants.{Number, Null, Default, Ignore, Failure, Initializer, Stream, Opaque, Errno, LeftOut}

-- names with the numbers from this one on
abbrev pub numbered : ℕ → List (List ℕ) → List (List ℕ × BuiltIn)
numbered k [] = []
numbered k (n ∷ ns) = (n, Number k) ∷ numbered (k + 1) ns

-- the signals, by their numbers (POSIX.1-2017 XBD signal.h)
abbrev pub signals : List (List ℕ × BuiltIn)
signals = numbered 1 signal_names

-- how a mask is changed (XSH pthread_sigmask) and the flags of sigaction (XSH sigaction)
abbrev pub masks_and_flags : List (List ℕ × BuiltIn)
masks_and_flags =
    (codes "SIG_BLOCK", Number 1) ∷ (codes "SIG_UNBLOCK", Number 2) ∷ (codes "SIG_SETMASK", Number 3) ∷ (codes "SA_NOCLDSTOP", Number 1) ∷
    (codes "SA_NODEFER", Number 2) ∷ (codes "SA_RESETHAND", Number 4) ∷ (codes "SA_RESTART", Number 8) ∷ (codes "SA_SIGINFO", Number 16) ∷
    (codes "SA_ONSTACK", Number 32) ∷ (codes "SA_NOCLDWAIT", Number 64) ∷ []

-- the other constants with a value (XBD stddef.h, stdlib.h, unistd.h, limits.h)
abbrev pub values : List (List ℕ × BuiltIn)
values =
    (codes "NULL", Null) ∷ (codes "EXIT_SUCCESS", Number 0) ∷ (codes "STDIN_FILENO", Number 0) ∷ (codes "STDOUT_FILENO", Number 1) ∷
    (codes "STDERR_FILENO", Number 2) ∷ (codes "INT_MAX", Number 2147483647) ∷ []

-- dispositions (XBD signal.h)
abbrev pub dispositions : List (List ℕ × BuiltIn)
dispositions =
    (codes "SIG_DFL", Default) ∷ (codes "SIG_IGN", Ignore) ∷ (codes "SIG_ERR", Failure) ∷ []

-- initialisers of kernel objects (XBD pthread.h), and streams (XBD stdio.h)
abbrev pub objects : List (List ℕ × BuiltIn)
objects =
    (codes "PTHREAD_MUTEX_INITIALIZER", Initializer) ∷ (codes "PTHREAD_COND_INITIALIZER", Initializer) ∷ (codes "stdin", Stream 0) ∷
    (codes "stdout", Stream 1) ∷ (codes "stderr", Stream 2) ∷ []

-- constants whose value is left open
abbrev pub open_values : List (List ℕ × BuiltIn)
open_values =
    (codes "EACCES", Opaque) ∷ (codes "EAGAIN", Opaque) ∷ (codes "EBADF", Opaque) ∷ (codes "ECHILD", Opaque) ∷ (codes "ECONNREFUSED", Opaque) ∷
    (codes "ECONNRESET", Opaque) ∷ (codes "EEXIST", Opaque) ∷ (codes "EINTR", Opaque) ∷ (codes "EINVAL", Opaque) ∷ (codes "EIO", Opaque) ∷
    (codes "EISDIR", Opaque) ∷ (codes "ENOENT", Opaque) ∷ (codes "ENOMEM", Opaque) ∷ (codes "ENOSPC", Opaque) ∷ (codes "ENOTDIR", Opaque) ∷
    (codes "EPERM", Opaque) ∷ (codes "EPIPE", Opaque) ∷ (codes "ESRCH", Opaque) ∷ (codes "ETIMEDOUT", Opaque) ∷ (codes "EWOULDBLOCK", Opaque) ∷
    (codes "O_APPEND", Opaque) ∷ (codes "O_CLOEXEC", Opaque) ∷ (codes "O_CREAT", Opaque) ∷ (codes "O_EXCL", Opaque) ∷ (codes "O_NONBLOCK", Opaque) ∷
    (codes "O_RDONLY", Opaque) ∷ (codes "O_RDWR", Opaque) ∷ (codes "O_TRUNC", Opaque) ∷ (codes "O_WRONLY", Opaque) ∷ (codes "F_GETFD", Opaque) ∷
    (codes "F_GETFL", Opaque) ∷ (codes "F_SETFD", Opaque) ∷ (codes "F_SETFL", Opaque) ∷ (codes "FD_CLOEXEC", Opaque) ∷ (codes "S_IRUSR", Opaque) ∷
    (codes "S_IWUSR", Opaque) ∷ (codes "S_IXUSR", Opaque) ∷ (codes "S_IRWXU", Opaque) ∷ (codes "SEEK_SET", Opaque) ∷ (codes "SEEK_CUR", Opaque) ∷
    (codes "SEEK_END", Opaque) ∷ (codes "AF_INET", Opaque) ∷ (codes "AF_UNIX", Opaque) ∷ (codes "SOCK_STREAM", Opaque) ∷
    (codes "SOCK_DGRAM", Opaque) ∷ (codes "SOL_SOCKET", Opaque) ∷ (codes "SO_REUSEADDR", Opaque) ∷ (codes "SOMAXCONN", Opaque) ∷
    (codes "INADDR_ANY", Opaque) ∷ (codes "POLLIN", Opaque) ∷ (codes "POLLOUT", Opaque) ∷ (codes "POLLERR", Opaque) ∷ (codes "POLLHUP", Opaque) ∷
    (codes "CLOCK_REALTIME", Opaque) ∷ (codes "CLOCK_MONOTONIC", Opaque) ∷ (codes "WNOHANG", Opaque) ∷ (codes "WUNTRACED", Opaque) ∷
    (codes "EXIT_FAILURE", Opaque) ∷ (codes "EOF", Opaque) ∷ (codes "BUFSIZ", Opaque) ∷ (codes "PATH_MAX", Opaque) ∷ (codes "LOG_ERR", Opaque) ∷
    (codes "LOG_WARNING", Opaque) ∷ (codes "LOG_INFO", Opaque) ∷ (codes "LOG_DEBUG", Opaque) ∷ []

-- the place of the last error (XBD errno.h)
abbrev pub places : List (List ℕ × BuiltIn)
places =
    (codes "errno", Errno) ∷ []

-- names of POSIX that the subset leaves out
abbrev pub left_out : List (List ℕ × BuiltIn)
left_out =
    (codes "setjmp", LeftOut) ∷ (codes "longjmp", LeftOut) ∷ (codes "sigsetjmp", LeftOut) ∷ (codes "siglongjmp", LeftOut) ∷
    (codes "pthread_exit", LeftOut) ∷ (codes "pthread_cancel", LeftOut) ∷ (codes "pthread_cleanup_push", LeftOut) ∷
    (codes "pthread_cleanup_pop", LeftOut) ∷ (codes "vfork", LeftOut) ∷ (codes "posix_spawn", LeftOut) ∷ (codes "posix_spawnp", LeftOut) ∷
    (codes "sigaltstack", LeftOut) ∷ (codes "sigpause", LeftOut) ∷ (codes "sigset", LeftOut) ∷ (codes "sigqueue", LeftOut) ∷
    (codes "qsort", LeftOut) ∷ (codes "bsearch", LeftOut) ∷ (codes "atexit", LeftOut) ∷ (codes "at_quick_exit", LeftOut) ∷
    (codes "pthread_once", LeftOut) ∷ (codes "pthread_key_create", LeftOut) ∷ (codes "timer_create", LeftOut) ∷ (codes "aio_read", LeftOut) ∷
    (codes "aio_write", LeftOut) ∷ []

abbrev pub built_ins : List (List ℕ × BuiltIn)
built_ins = signals ++ (masks_and_flags ++ (values ++ (dispositions ++ (objects ++ (open_values ++ (places ++ left_out))))))
