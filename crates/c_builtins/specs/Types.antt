-- The names that are types in every program, and the built-in structures (POSIX.1-2017 XBD 13). The choice of names, of members and of
-- the width of each is this project's own; integers are those of LP64.
use Rattle.std.specs.Prelude.{ℕ, List, [], ◌∷◌, ◌++◌, true, false, codes}
use Rattle.c_builtins.specs.declared.types.BuiltInType.{BuiltInType}
use Rattle.c_builtins.specs.declared.types.BuiltInType.TheVariants.{Int, Signals, Kernel, Structure, Text, Handler, Action}

-- integers
abbrev pub integer_names : List (List ℕ × BuiltInType)
integer_names =
    (codes "size_t", Int 64 false) ∷ (codes "ssize_t", Int 64 true) ∷ (codes "off_t", Int 64 true) ∷ (codes "time_t", Int 64 true) ∷
    (codes "clock_t", Int 64 true) ∷ (codes "ptrdiff_t", Int 64 true) ∷ (codes "intptr_t", Int 64 true) ∷ (codes "int64_t", Int 64 true) ∷
    (codes "uintptr_t", Int 64 false) ∷ (codes "uint64_t", Int 64 false) ∷ (codes "pthread_t", Int 64 false) ∷ (codes "nfds_t", Int 64 false) ∷
    (codes "pid_t", Int 32 true) ∷ (codes "clockid_t", Int 32 true) ∷ (codes "int32_t", Int 32 true) ∷ (codes "sig_atomic_t", Int 32 true) ∷
    (codes "uid_t", Int 32 false) ∷ (codes "gid_t", Int 32 false) ∷ (codes "mode_t", Int 32 false) ∷ (codes "socklen_t", Int 32 false) ∷
    (codes "uint32_t", Int 32 false) ∷ (codes "in_addr_t", Int 32 false) ∷ (codes "uint16_t", Int 16 false) ∷ (codes "sa_family_t", Int 16 false) ∷
    (codes "in_port_t", Int 16 false) ∷ (codes "int16_t", Int 16 true) ∷ (codes "uint8_t", Int 8 false) ∷ (codes "int8_t", Int 8 true) ∷ []

-- signals
abbrev pub signal_names : List (List ℕ × BuiltInType)
signal_names =
    (codes "sigset_t", Signals) ∷ (codes "siginfo_t", Structure 12) ∷ []

-- objects whose inside no program sees
abbrev pub kernel_names : List (List ℕ × BuiltInType)
kernel_names =
    (codes "FILE", Kernel) ∷ (codes "pthread_attr_t", Kernel) ∷ (codes "pthread_mutex_t", Kernel) ∷ (codes "pthread_mutexattr_t", Kernel) ∷
    (codes "pthread_cond_t", Kernel) ∷ (codes "pthread_condattr_t", Kernel) ∷ (codes "sem_t", Kernel) ∷ (codes "fd_set", Kernel) ∷ []

abbrev pub type_names : List (List ℕ × BuiltInType)
type_names = integer_names ++ (signal_names ++ kernel_names)

-- the tags of the structures, in the order of their numbers; the structure behind the last of them is siginfo_t, which has no tag
abbrev pub tags : List (List ℕ)
tags =
    codes "timespec" ∷ codes "timeval" ∷ codes "stat" ∷ codes "pollfd" ∷ codes "tm" ∷ codes "tms" ∷ codes "in_addr" ∷ codes "sockaddr" ∷
    codes "sockaddr_in" ∷ codes "sockaddr_un" ∷ codes "utsname" ∷ codes "sigaction" ∷ []

abbrev timespec_members : List (List ℕ × BuiltInType)
timespec_members =
    (codes "tv_sec", Int 64 true) ∷ (codes "tv_nsec", Int 64 true) ∷ []

abbrev timeval_members : List (List ℕ × BuiltInType)
timeval_members =
    (codes "tv_sec", Int 64 true) ∷ (codes "tv_usec", Int 64 true) ∷ []

abbrev stat_members : List (List ℕ × BuiltInType)
stat_members =
    (codes "st_mode", Int 64 true) ∷ (codes "st_size", Int 64 true) ∷ (codes "st_uid", Int 64 true) ∷ (codes "st_gid", Int 64 true) ∷
    (codes "st_mtime", Int 64 true) ∷ (codes "st_ino", Int 64 true) ∷ (codes "st_dev", Int 64 true) ∷ (codes "st_nlink", Int 64 true) ∷ []

abbrev pollfd_members : List (List ℕ × BuiltInType)
pollfd_members =
    (codes "fd", Int 64 true) ∷ (codes "events", Int 64 true) ∷ (codes "revents", Int 64 true) ∷ []

abbrev tm_members : List (List ℕ × BuiltInType)
tm_members =
    (codes "tm_sec", Int 64 true) ∷ (codes "tm_min", Int 64 true) ∷ (codes "tm_hour", Int 64 true) ∷ (codes "tm_mday", Int 64 true) ∷
    (codes "tm_mon", Int 64 true) ∷ (codes "tm_year", Int 64 true) ∷ (codes "tm_wday", Int 64 true) ∷ (codes "tm_yday", Int 64 true) ∷
    (codes "tm_isdst", Int 64 true) ∷ []

abbrev tms_members : List (List ℕ × BuiltInType)
tms_members =
    (codes "tms_utime", Int 64 true) ∷ (codes "tms_stime", Int 64 true) ∷ (codes "tms_cutime", Int 64 true) ∷ (codes "tms_cstime", Int 64 true) ∷ []

abbrev in_addr_members : List (List ℕ × BuiltInType)
in_addr_members =
    (codes "s_addr", Int 64 true) ∷ []

abbrev sockaddr_members : List (List ℕ × BuiltInType)
sockaddr_members =
    (codes "sa_family", Int 64 true) ∷ []

abbrev sockaddr_in_members : List (List ℕ × BuiltInType)
sockaddr_in_members =
    (codes "sin_family", Int 64 true) ∷ (codes "sin_port", Int 64 true) ∷ (codes "sin_addr", Structure 6) ∷ []

abbrev sockaddr_un_members : List (List ℕ × BuiltInType)
sockaddr_un_members =
    (codes "sun_family", Int 64 true) ∷ (codes "sun_path", Text) ∷ []

abbrev utsname_members : List (List ℕ × BuiltInType)
utsname_members =
    (codes "sysname", Text) ∷ (codes "nodename", Text) ∷ (codes "release", Text) ∷ (codes "version", Text) ∷ (codes "machine", Text) ∷ []

abbrev sigaction_members : List (List ℕ × BuiltInType)
sigaction_members =
    (codes "sa_handler", Handler) ∷ (codes "sa_sigaction", Action) ∷ (codes "sa_mask", Signals) ∷ (codes "sa_flags", Int 32 true) ∷ []

abbrev siginfo_members : List (List ℕ × BuiltInType)
siginfo_members =
    (codes "si_signo", Int 64 true) ∷ (codes "si_code", Int 64 true) ∷ (codes "si_errno", Int 64 true) ∷ (codes "si_pid", Int 64 true) ∷
    (codes "si_uid", Int 64 true) ∷ (codes "si_status", Int 64 true) ∷ []

-- the members of each structure
abbrev pub structures : List (List (List ℕ × BuiltInType))
structures =
    timespec_members ∷ timeval_members ∷ stat_members ∷ pollfd_members ∷ tm_members ∷ tms_members ∷ in_addr_members ∷ sockaddr_members ∷
    sockaddr_in_members ∷ sockaddr_un_members ∷ utsname_members ∷ sigaction_members ∷ siginfo_members ∷ []
