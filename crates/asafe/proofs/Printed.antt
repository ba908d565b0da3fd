-- What is printed by the command's ending, and which statuses a job may have.
use Rattle.std.proofs.Common.{◌≡◌, ◌∙◌, ap, refl, sym, subst, ℕ, ◌⊎◌, inl, inr, Bool, List, [], ◌∷◌, ◌++◌, Option, Some, None, string_bytes}
use Rattle.std.proofs.lemmas.List.{append-nil}
use Rattle.base_core.specs.Contents.{Contents, text_of, Lacks}
use Rattle.base_core.specs.Count.{Rose}
use Rattle.base_core.specs.Taken.{appended}
use Rattle.command_words.specs.Jobs.{Asked, certify, check, show, table, generate}
use Rattle.asafe.specs.declared.status.Status.{Status}
use Rattle.asafe.specs.declared.status.Status.TheVariants.{Yes, Usage, Text, ReadFault, WriteFault, NoMemory, NotYet}
use Rattle.asafe.specs.declared.ending.Ending.{Ending}
use Rattle.asafe.specs.declared.ending.Ending.TheVariants as ending
use Rattle.asafe.specs.Answers.{Ends, FileEnds, TableEnds, LaterEnds, UsageEnds, IsUnread}
use Rattle.asafe.specs.Ending.{ending_status, ending_text}
use Rattle.asafe.specs.Ends.{IsUsageOrFault, IsYesOrFault, IsNotYetOrNoMemory, IsReadFaultOrFault}
use Rattle.asafe.specs.Lines.{report, table_text, usage_line}
use Rattle.asafe.specs.Printing.{CertifyPrints, IsPrintedOf, JobPrints, LaterPrints, Prints, PutsLine, PutsPart, TablePrints, UsagePrints}
use Rattle.asafe.specs.Words.{HasText, IsLater, LacksFile, certified}
use Rattle.asafe.proofs.Endings.{ends_file}

no_part : (before after : Option (List ℕ)) → PutsPart before after [] → ⊥
no_part before after part = no_rest part.front part.rest (sym part.split) part.proper
  where
    no_rest : (front rest : List ℕ) → front ++ rest ≡ [] → (rest ≡ [] → ⊥) → ⊥
    no_rest [] rest same proper = proper same
    no_rest (x ∷ front) rest same proper = cc

appended-nil : (o : Option (List ℕ)) → appended o [] ≡ o
appended-nil None = refl
appended-nil (Some xs) = ap Some (append-nil xs)

-- ---- over any shelf

-- an ending that isn't want of memory prints what the status asks
abbrev Printed : (Status → List ℕ → Type 0) → Ending → Type 0
Printed P ending.NoMemory = Unit {0}
Printed P e = P (ending_status e) (ending_text e)

file_prints : (file : List ℕ) (json : Bool) (contents : Contents) (b a : ℕ) (e : Ending) → FileEnds file json contents b a e → Printed (CertifyPrints file json) e
file_prints file json contents b a (ending.Accepted as_json) ends = ap report ends.0
file_prints file json contents b a ending.Refused ends = refl
file_prints file json contents b a (ending.Listed list) ends = absurd ends
file_prints file json contents b a ending.Usage ends = absurd ends
file_prints file json contents b a (ending.Faulty line) ends = ends.0
file_prints file json contents b a (ending.Unread line) ends = ends.0
file_prints file json contents b a ending.NoMemory ends = tt
file_prints file json contents b a (ending.TooLarge line) ends = ends.0
file_prints file json contents b a ending.NotYet ends = refl

table_prints : (e : Ending) → TableEnds e → Printed TablePrints e
table_prints (ending.Accepted as_json) ends = absurd ends
table_prints ending.Refused ends = absurd ends
table_prints (ending.Listed list) ends = ends
table_prints ending.Usage ends = absurd ends
table_prints (ending.Faulty line) ends = absurd ends
table_prints (ending.Unread line) ends = absurd ends
table_prints ending.NoMemory ends = tt
table_prints (ending.TooLarge line) ends = absurd ends
table_prints ending.NotYet ends = absurd ends

later_prints : (e : Ending) → LaterEnds e → Printed LaterPrints e
later_prints (ending.Accepted as_json) ends = absurd ends
later_prints ending.Refused ends = absurd ends
later_prints (ending.Listed list) ends = absurd ends
later_prints ending.Usage ends = absurd ends
later_prints (ending.Faulty line) ends = absurd ends
later_prints (ending.Unread line) ends = absurd ends
later_prints ending.NoMemory ends = tt
later_prints (ending.TooLarge line) ends = absurd ends
later_prints ending.NotYet ends = refl

usage_prints : (e : Ending) → UsageEnds e → Printed UsagePrints e
usage_prints (ending.Accepted as_json) ends = absurd ends
usage_prints ending.Refused ends = absurd ends
usage_prints (ending.Listed list) ends = absurd ends
usage_prints ending.Usage ends = refl
usage_prints (ending.Faulty line) ends = absurd ends
usage_prints (ending.Unread line) ends = absurd ends
usage_prints ending.NoMemory ends = tt
usage_prints (ending.TooLarge line) ends = absurd ends
usage_prints ending.NotYet ends = absurd ends

job_prints : (job : Option Asked) (contents : Contents) (b a : ℕ) (e : Ending) → Ends job contents b a e → Printed (JobPrints job) e
job_prints None contents b a e ends = usage_prints e ends
job_prints (Some (certify file rules depth None json)) contents b a e ends = file_prints file json contents b a e ends
job_prints (Some (certify file rules depth (Some out) json)) contents b a e ends = later_prints e ends
job_prints (Some (check file certificate rules)) contents b a e ends = later_prints e ends
job_prints (Some (show file)) contents b a e ends = later_prints e ends
job_prints (Some table) contents b a e ends = table_prints e ends
job_prints (Some (generate n)) contents b a e ends = later_prints e ends

all_put : (job : Option Asked) (e : Ending) (before after : Option (List ℕ)) → Printed (JobPrints job) e → after ≡ appended before (ending_text e) → Prints job (ending_status e) before after
all_put job (ending.Accepted as_json) before after prints took = (ending_text (ending.Accepted as_json), prints, took)
all_put job ending.Refused before after prints took = (ending_text ending.Refused, prints, took)
all_put job (ending.Listed list) before after prints took = (ending_text (ending.Listed list), prints, took)
all_put job ending.Usage before after prints took = (ending_text ending.Usage, prints, took)
all_put job (ending.Faulty line) before after prints took = (ending_text (ending.Faulty line), prints, took)
all_put job (ending.Unread line) before after prints took = (ending_text (ending.Unread line), prints, took)
all_put job ending.NoMemory before after prints took = took ∙ appended-nil before
all_put job (ending.TooLarge line) before after prints took = (ending_text (ending.TooLarge line), prints, took)
all_put job ending.NotYet before after prints took = (ending_text ending.NotYet, prints, took)

part_put : (job : Option Asked) (e : Ending) (before after : Option (List ℕ)) → Printed (JobPrints job) e → PutsPart before after (ending_text e) → Prints job WriteFault before after
part_put job (ending.Accepted as_json) before after prints part = (ending_status (ending.Accepted as_json), ending_text (ending.Accepted as_json), prints, part)
part_put job ending.Refused before after prints part = absurd (no_part before after part)
part_put job (ending.Listed list) before after prints part = (ending_status (ending.Listed list), ending_text (ending.Listed list), prints, part)
part_put job ending.Usage before after prints part = (ending_status ending.Usage, ending_text ending.Usage, prints, part)
part_put job (ending.Faulty line) before after prints part = (ending_status (ending.Faulty line), ending_text (ending.Faulty line), prints, part)
part_put job (ending.Unread line) before after prints part = (ending_status (ending.Unread line), ending_text (ending.Unread line), prints, part)
part_put job ending.NoMemory before after prints part = absurd (no_part before after part)
part_put job (ending.TooLarge line) before after prints part = (ending_status (ending.TooLarge line), ending_text (ending.TooLarge line), prints, part)
part_put job ending.NotYet before after prints part = absurd (no_part before after part)

prints : (job : Option Asked) (contents : Contents) (b a : ℕ) (e : Ending) (before after : Option (List ℕ)) → Ends job contents b a e → after ≡ appended before (ending_text e)
    → Prints job (ending_status e) before after
prints job contents b a e before after ends took = all_put job e before after (job_prints job contents b a e ends) took

pub prints_part : (job : Option Asked) (contents : Contents) (b a : ℕ) (e : Ending) (before after : Option (List ℕ)) (bytes : List ℕ) → Ends job contents b a e → bytes ≡ ending_text e
    → PutsPart before after bytes → Prints job WriteFault before after
prints_part job contents b a e before after bytes ends same part = part_put job e before after (job_prints job contents b a e ends) (subst (PutsPart before after) same part)

-- ---- of a text that is told

line_put : (file text : List ℕ) (json : Bool) (contents : Contents) (b a : ℕ) (e : Ending) (before after : Option (List ℕ)) → FileEnds file json contents b a e
    → text_of contents file ≡ Some text → ending_status e ≡ Text → after ≡ appended before (ending_text e) → PutsLine file text before after
line_put file text json contents b a (ending.Faulty line) before after ends held is took = let has = ends.1 text held in (string_bytes line, has.1, took)
line_put file text json contents b a (ending.Accepted as_json) before after ends held is took = absurd cc
line_put file text json contents b a ending.Refused before after ends held is took = absurd cc
line_put file text json contents b a (ending.Listed list) before after ends held is took = absurd ends
line_put file text json contents b a ending.Usage before after ends held is took = absurd ends
line_put file text json contents b a (ending.Unread line) before after ends held is took = absurd cc
line_put file text json contents b a ending.NoMemory before after ends held is took = absurd cc
line_put file text json contents b a (ending.TooLarge line) before after ends held is took = absurd cc
line_put file text json contents b a ending.NotYet before after ends held is took = absurd cc

pub puts_line : (job : Option Asked) (text : List ℕ) (contents : Contents) (b a : ℕ) (e : Ending) (before after : Option (List ℕ)) → Ends job contents b a e
    → (has : HasText job contents text) → ending_status e ≡ Text → after ≡ appended before (ending_text e) → PutsLine has.file text before after
puts_line job text contents b a e before after ends has is took =
    line_put has.file text has.certifies.json contents b a e before after (ends_file job has.file has.certifies.json contents b a e has.certifies.asked ends) has.held is took

held_lacked : (contents : Contents) (file text : List ℕ) → text_of contents file ≡ Some text → Lacks contents file → ⊥
held_lacked None file text held lacked = lacked
held_lacked (Some texts) file text held lacked = let clash : ◌≡◌ {A = Option (List ℕ)} None (Some text) = sym lacked ∙ held in cc

rose_of : (contents : Contents) (file text : List ℕ) (b a : ℕ) → text_of contents file ≡ Some text → Rose b a ⊎ Lacks contents file → Rose b a
rose_of contents file text b a held (inl rose) = rose
rose_of contents file text b a held (inr lacked) = absurd (held_lacked contents file text held lacked)

printed_of : (file text : List ℕ) (json : Bool) (contents : Contents) (b a : ℕ) (e : Ending) (before after : Option (List ℕ)) → FileEnds file json contents b a e
    → text_of contents file ≡ Some text → PutsPart before after (ending_text e) → IsPrintedOf file text json b a (ending_text e)
printed_of file text json contents b a (ending.Accepted as_json) before after ends held part = let has = ends.1 text held in inl (has.0, has.1, ap report ends.0)
printed_of file text json contents b a ending.Refused before after ends held part = absurd (no_part before after part)
printed_of file text json contents b a (ending.Listed list) before after ends held part = absurd ends
printed_of file text json contents b a ending.Usage before after ends held part = absurd ends
printed_of file text json contents b a (ending.Faulty line) before after ends held part = inr (inl (ends.1 text held))
printed_of file text json contents b a (ending.Unread line) before after ends held part = inr (inr (inr (rose_of contents file text b a held ends.1, ends.0)))
printed_of file text json contents b a ending.NoMemory before after ends held part = absurd (no_part before after part)
printed_of file text json contents b a (ending.TooLarge line) before after ends held part = inr (inr (inl (ends.1 text held, ends.0)))
printed_of file text json contents b a ending.NotYet before after ends held part = absurd (no_part before after part)

pub part_of : (job : Option Asked) (text : List ℕ) (contents : Contents) (b a : ℕ) (e : Ending) (before after : Option (List ℕ)) (bytes : List ℕ) → Ends job contents b a e
    → (has : HasText job contents text) → bytes ≡ ending_text e → PutsPart before after bytes
    → (put : List ℕ) × IsPrintedOf has.file text has.certifies.json b a put × PutsPart before after put
part_of job text contents b a e before after bytes ends has same part =
    let whole : PutsPart before after (ending_text e) = subst (PutsPart before after) same part in (
      ending_text e,
      printed_of has.file text has.certifies.json contents b a e before after (ends_file job has.file has.certifies.json contents b a e has.certifies.asked ends) has.held whole,
      whole,
    )

-- ---- the other jobs

table_status : (e : Ending) → TableEnds e → IsYesOrFault (ending_status e)
table_status (ending.Accepted as_json) ends = absurd ends
table_status ending.Refused ends = absurd ends
table_status (ending.Listed list) ends = tt
table_status ending.Usage ends = absurd ends
table_status (ending.Faulty line) ends = absurd ends
table_status (ending.Unread line) ends = absurd ends
table_status ending.NoMemory ends = tt
table_status (ending.TooLarge line) ends = absurd ends
table_status ending.NotYet ends = absurd ends

pub lists : (job : Option Asked) (contents : Contents) (b a : ℕ) (e : Ending) → job ≡ Some table → Ends job contents b a e → IsYesOrFault (ending_status e)
lists job contents b a e is ends = table_status e (subst (λ (j : Option Asked). Ends j contents b a e) is ends)

table_line : (e : Ending) → TableEnds e → ending_status e ≡ Yes → ending_text e ≡ table_text
table_line (ending.Listed list) ends is = ends
table_line (ending.Accepted as_json) ends is = absurd ends
table_line ending.Refused ends is = absurd ends
table_line ending.Usage ends is = absurd ends
table_line (ending.Faulty line) ends is = absurd ends
table_line (ending.Unread line) ends is = absurd ends
table_line ending.NoMemory ends is = absurd cc
table_line (ending.TooLarge line) ends is = absurd ends
table_line ending.NotYet ends is = absurd ends

pub list_text : (job : Option Asked) (contents : Contents) (b a : ℕ) (e : Ending) → job ≡ Some table → Ends job contents b a e → ending_status e ≡ Yes → ending_text e ≡ table_text
list_text job contents b a e is ends done = table_line e (subst (λ (j : Option Asked). Ends j contents b a e) is ends) done

later_status : (e : Ending) → LaterEnds e → IsNotYetOrNoMemory (ending_status e) × (ending_text e ≡ [])
later_status (ending.Accepted as_json) ends = absurd ends
later_status ending.Refused ends = absurd ends
later_status (ending.Listed list) ends = absurd ends
later_status ending.Usage ends = absurd ends
later_status (ending.Faulty line) ends = absurd ends
later_status (ending.Unread line) ends = absurd ends
later_status ending.NoMemory ends = (tt, refl)
later_status (ending.TooLarge line) ends = absurd ends
later_status ending.NotYet ends = (tt, refl)

pub later : (job : Option Asked) (contents : Contents) (b a : ℕ) (e : Ending) → IsLater job → Ends job contents b a e → IsNotYetOrNoMemory (ending_status e) × (ending_text e ≡ [])
later None contents b a e is ends = absurd is
later (Some (certify file rules depth None json)) contents b a e is ends = absurd is
later (Some (certify file rules depth (Some out) json)) contents b a e is ends = later_status e ends
later (Some (check file certificate rules)) contents b a e is ends = later_status e ends
later (Some (show file)) contents b a e is ends = later_status e ends
later (Some table) contents b a e is ends = absurd is
later (Some (generate n)) contents b a e is ends = later_status e ends

pub later_no_part : (job : Option Asked) (contents : Contents) (b a : ℕ) (e : Ending) (before after : Option (List ℕ)) (bytes : List ℕ) → IsLater job → Ends job contents b a e
    → bytes ≡ ending_text e → PutsPart before after bytes → ⊥
later_no_part job contents b a e before after bytes is ends same part =
    no_part before after (subst (PutsPart before after) (same ∙ (later job contents b a e is ends).1) part)

-- ---- the words

usage_status : (e : Ending) → UsageEnds e → IsUsageOrFault (ending_status e)
usage_status (ending.Accepted as_json) ends = absurd ends
usage_status ending.Refused ends = absurd ends
usage_status (ending.Listed list) ends = absurd ends
usage_status ending.Usage ends = tt
usage_status (ending.Faulty line) ends = absurd ends
usage_status (ending.Unread line) ends = absurd ends
usage_status ending.NoMemory ends = tt
usage_status (ending.TooLarge line) ends = absurd ends
usage_status ending.NotYet ends = absurd ends

pub no_job : (job : Option Asked) (contents : Contents) (b a : ℕ) (e : Ending) → job ≡ None → Ends job contents b a e → IsUsageOrFault (ending_status e)
no_job job contents b a e is ends = usage_status e (subst (λ (j : Option Asked). Ends j contents b a e) is ends)

-- an ending that tells of no usage
abbrev NoUsage : Ending → Type 0
NoUsage ending.Usage = ⊥
NoUsage e = Unit {0}

not_usage : (e : Ending) → NoUsage e → ending_status e ≡ Usage → ⊥
not_usage (ending.Accepted as_json) apart is = cc
not_usage ending.Refused apart is = cc
not_usage (ending.Listed list) apart is = cc
not_usage ending.Usage apart is = apart
not_usage (ending.Faulty line) apart is = cc
not_usage (ending.Unread line) apart is = cc
not_usage ending.NoMemory apart is = cc
not_usage (ending.TooLarge line) apart is = cc
not_usage ending.NotYet apart is = cc

no_usage_file : (file : List ℕ) (json : Bool) (contents : Contents) (b a : ℕ) (e : Ending) → FileEnds file json contents b a e → NoUsage e
no_usage_file file json contents b a ending.Usage ends = ends
no_usage_file file json contents b a (ending.Accepted as_json) ends = tt
no_usage_file file json contents b a ending.Refused ends = tt
no_usage_file file json contents b a (ending.Listed list) ends = tt
no_usage_file file json contents b a (ending.Faulty line) ends = tt
no_usage_file file json contents b a (ending.Unread line) ends = tt
no_usage_file file json contents b a ending.NoMemory ends = tt
no_usage_file file json contents b a (ending.TooLarge line) ends = tt
no_usage_file file json contents b a ending.NotYet ends = tt

no_usage_table : (e : Ending) → TableEnds e → NoUsage e
no_usage_table ending.Usage ends = ends
no_usage_table (ending.Listed list) ends = tt
no_usage_table ending.NoMemory ends = tt
no_usage_table (ending.Accepted as_json) ends = absurd ends
no_usage_table ending.Refused ends = absurd ends
no_usage_table (ending.Faulty line) ends = absurd ends
no_usage_table (ending.Unread line) ends = absurd ends
no_usage_table (ending.TooLarge line) ends = absurd ends
no_usage_table ending.NotYet ends = absurd ends

no_usage_later : (e : Ending) → LaterEnds e → NoUsage e
no_usage_later ending.Usage ends = ends
no_usage_later (ending.Listed list) ends = absurd ends
no_usage_later ending.NoMemory ends = tt
no_usage_later (ending.Accepted as_json) ends = absurd ends
no_usage_later ending.Refused ends = absurd ends
no_usage_later (ending.Faulty line) ends = absurd ends
no_usage_later (ending.Unread line) ends = absurd ends
no_usage_later (ending.TooLarge line) ends = absurd ends
no_usage_later ending.NotYet ends = tt

pub usage_job : (job : Option Asked) (contents : Contents) (b a : ℕ) (e : Ending) → Ends job contents b a e → ending_status e ≡ Usage → job ≡ None
usage_job None contents b a e ends is = refl
usage_job (Some (certify file rules depth None json)) contents b a e ends is = absurd (not_usage e (no_usage_file file json contents b a e ends) is)
usage_job (Some (certify file rules depth (Some out) json)) contents b a e ends is = absurd (not_usage e (no_usage_later e ends) is)
usage_job (Some (check file certificate rules)) contents b a e ends is = absurd (not_usage e (no_usage_later e ends) is)
usage_job (Some (show file)) contents b a e ends is = absurd (not_usage e (no_usage_later e ends) is)
usage_job (Some table) contents b a e ends is = absurd (not_usage e (no_usage_table e ends) is)
usage_job (Some (generate n)) contents b a e ends is = absurd (not_usage e (no_usage_later e ends) is)

pub usage_text : (e : Ending) → ending_status e ≡ Usage → ending_text e ≡ usage_line
usage_text ending.Usage is = refl
usage_text (ending.Accepted as_json) is = absurd cc
usage_text ending.Refused is = absurd cc
usage_text (ending.Listed list) is = absurd cc
usage_text (ending.Faulty line) is = absurd cc
usage_text (ending.Unread line) is = absurd cc
usage_text ending.NoMemory is = absurd cc
usage_text (ending.TooLarge line) is = absurd cc
usage_text ending.NotYet is = absurd cc

-- the texts of the statuses with which nothing is printed
pub not_yet_text : (e : Ending) → ending_status e ≡ NotYet → ending_text e ≡ []
not_yet_text ending.NotYet is = refl
not_yet_text ending.Usage is = absurd cc
not_yet_text (ending.Accepted as_json) is = absurd cc
not_yet_text ending.Refused is = absurd cc
not_yet_text (ending.Listed list) is = absurd cc
not_yet_text (ending.Faulty line) is = absurd cc
not_yet_text (ending.Unread line) is = absurd cc
not_yet_text ending.NoMemory is = absurd cc
not_yet_text (ending.TooLarge line) is = absurd cc

pub no_memory_text : (e : Ending) → ending_status e ≡ NoMemory → ending_text e ≡ []
no_memory_text ending.NoMemory is = refl
no_memory_text ending.Usage is = absurd cc
no_memory_text (ending.Accepted as_json) is = absurd cc
no_memory_text ending.Refused is = absurd cc
no_memory_text (ending.Listed list) is = absurd cc
no_memory_text (ending.Faulty line) is = absurd cc
no_memory_text (ending.Unread line) is = absurd cc
no_memory_text ending.NotYet is = absurd cc
no_memory_text (ending.TooLarge line) is = absurd cc

-- ---- reading

unread : (file : List ℕ) (json : Bool) (contents : Contents) (b a : ℕ) (e : Ending) → FileEnds file json contents b a e → ending_status e ≡ ReadFault → Rose b a ⊎ Lacks contents file
unread file json contents b a (ending.Unread line) ends is = ends.1
unread file json contents b a (ending.Accepted as_json) ends is = absurd cc
unread file json contents b a ending.Refused ends is = absurd cc
unread file json contents b a (ending.Listed list) ends is = absurd cc
unread file json contents b a ending.Usage ends is = absurd cc
unread file json contents b a (ending.Faulty line) ends is = absurd cc
unread file json contents b a ending.NoMemory ends is = absurd cc
unread file json contents b a (ending.TooLarge line) ends is = absurd cc
unread file json contents b a ending.NotYet ends is = absurd cc

lacks_file : (job : Option Asked) (file : List ℕ) (json : Bool) (contents : Contents) (b a : ℕ) → certified job ≡ Some (file, json) → Rose b a ⊎ Lacks contents file
    → Rose b a ⊎ LacksFile job contents
lacks_file job file json contents b a asks (inl rose) = inl rose
lacks_file job file json contents b a asks (inr lacked) = inr (record { file = file; certifies = record { json = json; asked = asks }; lacked = lacked })

no_unread_usage : (e : Ending) → UsageEnds e → ending_status e ≡ ReadFault → ⊥
no_unread_usage (ending.Accepted as_json) ends is = ends
no_unread_usage ending.Refused ends is = ends
no_unread_usage (ending.Listed list) ends is = ends
no_unread_usage ending.Usage ends is = cc
no_unread_usage (ending.Faulty line) ends is = ends
no_unread_usage (ending.Unread line) ends is = ends
no_unread_usage ending.NoMemory ends is = cc
no_unread_usage (ending.TooLarge line) ends is = ends
no_unread_usage ending.NotYet ends is = ends

no_unread_later : (e : Ending) → LaterEnds e → ending_status e ≡ ReadFault → ⊥
no_unread_later (ending.Accepted as_json) ends is = ends
no_unread_later ending.Refused ends is = ends
no_unread_later (ending.Listed list) ends is = ends
no_unread_later ending.Usage ends is = ends
no_unread_later (ending.Faulty line) ends is = ends
no_unread_later (ending.Unread line) ends is = ends
no_unread_later ending.NoMemory ends is = cc
no_unread_later (ending.TooLarge line) ends is = ends
no_unread_later ending.NotYet ends is = cc

no_unread_table : (e : Ending) → TableEnds e → ending_status e ≡ ReadFault → ⊥
no_unread_table (ending.Accepted as_json) ends is = ends
no_unread_table ending.Refused ends is = ends
no_unread_table (ending.Listed list) ends is = cc
no_unread_table ending.Usage ends is = ends
no_unread_table (ending.Faulty line) ends is = ends
no_unread_table (ending.Unread line) ends is = ends
no_unread_table ending.NoMemory ends is = cc
no_unread_table (ending.TooLarge line) ends is = ends
no_unread_table ending.NotYet ends is = ends

pub not_read : (job : Option Asked) (contents : Contents) (b a : ℕ) (e : Ending) → Ends job contents b a e → ending_status e ≡ ReadFault → Rose b a ⊎ LacksFile job contents
not_read None contents b a e ends is = absurd (no_unread_usage e ends is)
not_read (Some (certify file rules depth None json)) contents b a e ends is =
    lacks_file (Some (certify file rules depth None json)) file json contents b a refl (unread file json contents b a e ends is)
not_read (Some (certify file rules depth (Some out) json)) contents b a e ends is = absurd (no_unread_later e ends is)
not_read (Some (check file certificate rules)) contents b a e ends is = absurd (no_unread_later e ends is)
not_read (Some (show file)) contents b a e ends is = absurd (no_unread_later e ends is)
not_read (Some table) contents b a e ends is = absurd (no_unread_table e ends is)
not_read (Some (generate n)) contents b a e ends is = absurd (no_unread_later e ends is)

pub absent : (e : Ending) → IsUnread e → IsReadFaultOrFault (ending_status e)
absent (ending.Unread line) is = tt
absent ending.NoMemory is = tt
absent (ending.Accepted as_json) is = absurd is
absent ending.Refused is = absurd is
absent (ending.Listed list) is = absurd is
absent ending.Usage is = absurd is
absent (ending.Faulty line) is = absurd is
absent (ending.TooLarge line) is = absurd is
absent ending.NotYet is = absurd is

pub prints_as : (job : Option Asked) (contents : Contents) (b a : ℕ) (e : Ending) (result : Status) (before after : Option (List ℕ)) → Ends job contents b a e
    → result ≡ ending_status e → after ≡ appended before (ending_text e) → Prints job result before after
prints_as job contents b a e result before after ends is took = subst (λ (s : Status). Prints job s before after) (sym is) (prints job contents b a e before after ends took)
