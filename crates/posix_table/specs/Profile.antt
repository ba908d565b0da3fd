-- The functions that the certifier knows. Which of them count as safe is this project's own profile: it was made after the list of POSIX.1-2017
-- XSH 2.4.3, and is no statement of which names stand in that list.
use Rattle.std.specs.Prelude.{ℕ, true, false, not, ◌&&◌, List, [], ◌∷◌, ◌++◌, codes, map}
use Rattle.std.specs.List.{flat_map}
use Rattle.std.specs.Str.{bytes_eq}
use Rattle.std.specs.Ordering.{nat_cmp, is_lt}
use Rattle.std.specs.Cmp.Lexicographic.{slice_cmp}
use Rattle.posix_table.specs.declared.row.Row.{Row}
use Rattle.posix_table.specs.Notation.{row_of, rows_of, words}

-- the functions that the profile counts as safe to call from a signal-catching function, and four macros of <sys/wait.h>
abbrev pub safe_lines : List (List ℕ × List ℕ)
safe_lines =
    (codes "() i", codes "getegid geteuid getgid getpgrp getpid getppid getuid pause pthread_self setsid") ∷
    (codes "() i fork", codes "fork") ∷
    (codes "() !", codes "abort") ∷
    (codes "(i) !", codes "_Exit _exit") ∷
    (codes "(i) i", codes "alarm close dup fchdir fdatasync fsync htonl htons ntohl ntohs raise setgid setuid sleep umask") ∷
    (codes "(i) i pure", codes "WEXITSTATUS WIFEXITED WIFSIGNALED WTERMSIG") ∷
    (codes "(i,i) i", codes "dup2 fchmod ftruncate kill listen pthread_kill setpgid shutdown") ∷
    (codes "(i,i,i) i", codes "fchown lseek socket") ∷
    (codes "(i,i,i,w) i", codes "socketpair") ∷
    (codes "(r) i", codes "chdir rmdir strlen unlink") ∷
    (codes "(r,i) i", codes "access chmod creat mkdir mkfifo") ∷
    (codes "(r,i,i) i", codes "chown") ∷
    (codes "(r,r) i", codes "link rename strcmp symlink") ∷
    (codes "(r,r,i) i", codes "memcmp strncmp") ∷
    (codes "(r,i,i?) i", codes "open") ∷
    (codes "(i,r,i,i?) i", codes "openat") ∷
    (codes "(i,i,y?) i", codes "fcntl") ∷
    (codes "(w) i", codes "pipe time times uname wait") ∷
    (codes "(i,w) i", codes "clock_gettime fstat") ∷
    (codes "(r,w) i", codes "lstat stat") ∷
    (codes "(r,w,i) i", codes "readlink") ∷
    (codes "(i,w,i) i", codes "read waitpid") ∷
    (codes "(i,r,i) i", codes "bind connect write") ∷
    (codes "(i,w,b) i", codes "accept getpeername getsockname") ∷
    (codes "(i,i,i,w,b) i", codes "getsockopt") ∷
    (codes "(i,i,i,r,i) i", codes "setsockopt") ∷
    (codes "(i,w,i,i) i", codes "recv") ∷
    (codes "(i,w,i,i,w,b) i", codes "recvfrom") ∷
    (codes "(i,r,i,i) i", codes "send") ∷
    (codes "(i,r,i,i,r,i) i", codes "sendto") ∷
    (codes "(b,i,i) i", codes "poll") ∷
    (codes "(i,b,b,b,b) i", codes "select") ∷
    (codes "(i,b,b,b,r,S) i wait", codes "pselect") ∷
    (codes "(k) i", codes "sem_post") ∷
    (codes "(r,i) 1", codes "strchr strrchr") ∷
    (codes "(r,i,i) 1", codes "memchr") ∷
    (codes "(r,r) 1", codes "strstr") ∷
    (codes "(w,c) 1", codes "strcpy") ∷
    (codes "(b,c) 1", codes "strcat") ∷
    (codes "(w,c,i) 1", codes "memcpy memmove strncpy") ∷
    (codes "(b,c,i) 1", codes "strncat") ∷
    (codes "(w,i,i) 1 fill", codes "memset") ∷
    (codes "(r,r,*) i exec", codes "execl execle") ∷
    (codes "(r,r) i exec", codes "execv") ∷
    (codes "(r,r,r) i exec", codes "execve") ∷
    (codes "(T) i empty", codes "sigemptyset") ∷
    (codes "(T) i full", codes "sigfillset") ∷
    (codes "(T) i any", codes "sigpending") ∷
    (codes "(T,i) i add", codes "sigaddset") ∷
    (codes "(T,i) i del", codes "sigdelset") ∷
    (codes "(S,i) i", codes "sigismember") ∷
    (codes "(S) i wait", codes "sigsuspend") ∷
    (codes "(i,S,T) i mask", codes "pthread_sigmask sigprocmask") ∷
    (codes "(i,A,B) i install", codes "sigaction") ∷
    (codes "(i,H) h install", codes "signal") ∷
    []

-- those that it counts as unsafe
abbrev pub unsafe_lines : List (List ℕ × List ℕ)
unsafe_lines =
    (codes "(r,*) i", codes "printf") ∷
    (codes "(k,r,*) i", codes "fprintf") ∷
    (codes "(w,i,r,*) i", codes "snprintf") ∷
    (codes "(r) i", codes "puts atoi system") ∷
    (codes "(i) i", codes "putchar pthread_detach") ∷
    (codes "() i", codes "getchar rand") ∷
    (codes "(i) v", codes "srand") ∷
    (codes "(r,k) i", codes "fputs") ∷
    (codes "(k) i", codes "fflush fclose pclose sem_wait pthread_mutex_lock pthread_mutex_unlock pthread_cond_signal") ∷
    (codes "(k,k) i", codes "pthread_mutex_init pthread_cond_wait") ∷
    (codes "(k,i,i) i", codes "sem_init") ∷
    (codes "(r) v", codes "perror") ∷
    (codes "(r,r) n", codes "fopen popen") ∷
    (codes "(w,i,k) 1", codes "fgets") ∷
    (codes "(i) n", codes "malloc") ∷
    (codes "(i,i) n", codes "calloc") ∷
    (codes "(c,i) n", codes "realloc") ∷
    (codes "(c) n", codes "strdup") ∷
    (codes "(k) v", codes "free") ∷
    (codes "(i) !", codes "exit") ∷
    (codes "(r) g", codes "getenv localtime") ∷
    (codes "(i) g", codes "strerror") ∷
    (codes "(r,w,i) i endp", codes "strtol") ∷
    (codes "(i,r,*) v", codes "syslog") ∷
    (codes "(w,k,P,x) i thread", codes "pthread_create") ∷
    (codes "(i,0) i", codes "pthread_join") ∷
    (codes "(Q,Q,Q) i atfork", codes "pthread_atfork") ∷
    (codes "(r,r) i exec", codes "execvp") ∷
    (codes "(r,r,*) i exec", codes "execlp") ∷
    (codes "(S,w) i", codes "sigwait") ∷
    []

-- the row in its place among rows that are sorted by the bytes of the name
abbrev pub placed : Row → List Row → List Row
placed row [] = row ∷ []
placed row (first ∷ rows) = elim (is_lt (slice_cmp nat_cmp row.name first.name)) [ true ↦ row ∷ first ∷ rows | false ↦ first ∷ placed row rows ]

-- the rows sorted by the bytes of the name
abbrev pub sorted : List Row → List Row
sorted [] = []
sorted (row ∷ rows) = placed row (sorted rows)

-- the rows of the profile
unfoldable pub profile_rows : List Row
profile_rows = sorted (flat_map (rows_of true) safe_lines ++ flat_map (rows_of false) unsafe_lines)

-- fork, counted as unsafe, and any other row as it is
abbrev pub with_unsafe_fork : Row → Row
with_unsafe_fork row = record row { safe = row.safe && not (bytes_eq row.name (codes "fork")) }

-- the row of _Fork, which makes a child process as fork does and runs no fork handlers
abbrev pub split_row : Row
split_row = row_of true (words (codes "() i split")) (codes "_Fork")

-- The rows of the later profile: those of the profile with fork unsafe, and that of _Fork.
unfoldable pub later_rows : List Row
later_rows = placed split_row (map with_unsafe_fork profile_rows)
