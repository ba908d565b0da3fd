-- Words of the stated form ask for the job that they state.
use Rattle.std.proofs.Common.{◌≡◌, ◌∙◌, refl, sym, ap, ap₂, Bool, true, false, List, [], ◌∷◌, ◌++◌, Option, Some, None, is_some, option_map, unwrap_or, codes}
use Rattle.std.specs.Prelude.{fold}
use Rattle.std.specs.Option.{option_map_or}
use Rattle.std.proofs.lemmas.Bool.{eqb-false}
use Rattle.std.proofs.lemmas.List.{append-nil}
use Rattle.clap.specs.Walk.{Row, Text, Waiting, Walk, idle, option, positional, arg_by_id, finished, has_row, settled, settled_rows, used_by_id, walked}
use Rattle.clap.specs.Simple.{App, built, entered}
use Rattle.clap.specs.Kinds.{Kinds, or_else}
use Rattle.clap.specs.Faults.{check_fault, defaults_fault, entered_fault, settle_fault, use_fault, walk_fault}
use Rattle.clap.proofs.OnLiterals.{clap_on_literals}
use Rattle.base_core.specs.declared.rules.Rules.{Rules}
use Rattle.base_core.specs.declared.rules.Rules.TheVariants.{Usual, Strict, Later}
use Rattle.command_words.specs.declared.job.Depth.{Depth}
use Rattle.command_words.specs.declared.job.Depth.TheVariants.{One, Two}
use Rattle.command_words.specs.Command.{command_app}
use Rattle.command_words.specs.Given.{found_in}
use Rattle.command_words.specs.Jobs as jobs
use Rattle.command_words.specs.Jobs.{Asked}
use Rattle.command_words.specs.Stated.{IsPlain, IsPlainIfGiven, StatedFormsAreAsked, certify, check, show, table, generate, depth_word, json_words, option_words, rules_word}
use Rattle.command_words.specs.Table.{certify_with, job_of}
use Rattle.command_words.specs.Values.{depth_value, number_of, rules_value}
use Rattle.command_words.specs.Words.{asked, unless_refused}
use Rattle.command_words.proofs.Walks.{Pending, Steps, at, held, joined, none, one, plain_step, rules, shape}

abbrev start : Walk
start = at idle 1 [] None

-- ---- behind the walk

abbrev app : App
app = built command_app

-- the faults that are looked for behind the walk
abbrev rest_fault : Walk → Kinds
rest_fault w =
    or_else (entered_fault app w.stopped) (or_else (settle_fault rules false w.held)
    (or_else (defaults_fault (settled rules w.held).rows rules) (check_fault shape (finished rules w.held) (is_some (entered app w.stopped)))))

abbrev end_job : Walk → Option Asked
end_job w = unless_refused (rest_fault w) (job_of (found_in (finished rules w.held)))

concluded : (words : List Text) (end : Walk) → Steps start words end → asked words ≡ end_job end
unfolding asked walk_fault
concluded words end steps =
    let goes : fold (walked rules []) start words ≡ end = ap (fold (walked rules []) start) (sym (append-nil words)) ∙ steps.goes [] in
    let passes : walk_fault shape [] start words ≡ [] = ap (walk_fault shape [] start) (sym (append-nil words)) ∙ steps.passes [] in
    let first : asked words ≡ end_job (fold (walked rules []) start words) =
    ap (λ (k : Kinds). unless_refused (or_else k (rest_fault (fold (walked rules []) start words))) (job_of (found_in (finished rules (fold (walked rules []) start words).held)))) passes in
    first ∙ ap end_job goes

-- ---- the job and its names

abbrev job_pending : Text → Pending
job_pending job = Some (codes "job", job ∷ [])

abbrev job_rows : Text → List Row
job_rows job = settled_rows rules (job_pending job) []

abbrev name_pending : Text → Pending
name_pending name = Some (codes "names", name ∷ [])

job_step : (job : Text) → IsPlain job → Steps start (job ∷ []) (at idle 2 [] (job_pending job))
unfolding clap_on_literals
job_step job plain = plain_step idle 1 [] None job plain refl

name_step : (job name : Text) → IsPlain name → Steps (at idle 2 [] (job_pending job)) (name ∷ []) (at positional 2 (job_rows job) (name_pending name))
unfolding clap_on_literals
name_step job name plain = plain_step idle 2 [] (job_pending job) name plain refl

abbrev named_rows : Text → Text → List Row
named_rows job name = settled_rows rules (name_pending name) (job_rows job)

next_step : (job name next : Text) → IsPlain next → Steps (at positional 2 (job_rows job) (name_pending name)) (next ∷ []) (at positional 2 (named_rows job name) (name_pending next))
unfolding clap_on_literals
next_step job name next plain = plain_step positional 2 (job_rows job) (name_pending name) next plain refl

-- ---- the options

abbrev Settles : List Row → Pending → Type 0
Settles rows pending = settle_fault rules false (held rows pending) ≡ []

module _ (rows : List Row) (pending : Pending) (settles : Settles rows pending) where
  rules_flag : (w : Waiting) → Steps (at w 2 rows pending) (codes "--rules" ∷ []) (at (option (codes "rules")) 2 (settled_rows rules pending rows) (Some (codes "rules", [])))
  unfolding clap_on_literals
  rules_flag idle = one (at idle 2 rows pending) (at (option (codes "rules")) 2 (settled_rows rules pending rows) (Some (codes "rules", []))) (codes "--rules") (ap (λ (k : Kinds). or_else k []) settles) refl
  rules_flag (option id) = one (at (option id) 2 rows pending) (at (option (codes "rules")) 2 (settled_rows rules pending rows) (Some (codes "rules", []))) (codes "--rules") (ap (λ (k : Kinds). or_else k []) settles) refl
  rules_flag positional = one (at positional 2 rows pending) (at (option (codes "rules")) 2 (settled_rows rules pending rows) (Some (codes "rules", []))) (codes "--rules") (ap (λ (k : Kinds). or_else k []) settles) refl

  depth_flag : (w : Waiting) → Steps (at w 2 rows pending) (codes "--depth" ∷ []) (at (option (codes "depth")) 2 (settled_rows rules pending rows) (Some (codes "depth", [])))
  unfolding clap_on_literals
  depth_flag idle = one (at idle 2 rows pending) (at (option (codes "depth")) 2 (settled_rows rules pending rows) (Some (codes "depth", []))) (codes "--depth") (ap (λ (k : Kinds). or_else k []) settles) refl
  depth_flag (option id) = one (at (option id) 2 rows pending) (at (option (codes "depth")) 2 (settled_rows rules pending rows) (Some (codes "depth", []))) (codes "--depth") (ap (λ (k : Kinds). or_else k []) settles) refl
  depth_flag positional = one (at positional 2 rows pending) (at (option (codes "depth")) 2 (settled_rows rules pending rows) (Some (codes "depth", []))) (codes "--depth") (ap (λ (k : Kinds). or_else k []) settles) refl

  certificate_flag : (w : Waiting) → Steps (at w 2 rows pending) (codes "--cert" ∷ []) (at (option (codes "cert")) 2 (settled_rows rules pending rows) (Some (codes "cert", [])))
  unfolding clap_on_literals
  certificate_flag idle = one (at idle 2 rows pending) (at (option (codes "cert")) 2 (settled_rows rules pending rows) (Some (codes "cert", []))) (codes "--cert") (ap (λ (k : Kinds). or_else k []) settles) refl
  certificate_flag (option id) = one (at (option id) 2 rows pending) (at (option (codes "cert")) 2 (settled_rows rules pending rows) (Some (codes "cert", []))) (codes "--cert") (ap (λ (k : Kinds). or_else k []) settles) refl
  certificate_flag positional = one (at positional 2 rows pending) (at (option (codes "cert")) 2 (settled_rows rules pending rows) (Some (codes "cert", []))) (codes "--cert") (ap (λ (k : Kinds). or_else k []) settles) refl

rules_read : (rows : List Row) (v : Text) → IsPlain v
    → Steps (at (option (codes "rules")) 2 rows (Some (codes "rules", []))) (v ∷ []) (at idle 2 rows (Some (codes "rules", v ∷ [])))
unfolding clap_on_literals
rules_read rows v plain = plain_step (option (codes "rules")) 2 rows (Some (codes "rules", [])) v plain refl

depth_read : (rows : List Row) (v : Text) → IsPlain v
    → Steps (at (option (codes "depth")) 2 rows (Some (codes "depth", []))) (v ∷ []) (at idle 2 rows (Some (codes "depth", v ∷ [])))
unfolding clap_on_literals
depth_read rows v plain = plain_step (option (codes "depth")) 2 rows (Some (codes "depth", [])) v plain refl

certificate_read : (rows : List Row) (v : Text) → IsPlain v
    → Steps (at (option (codes "cert")) 2 rows (Some (codes "cert", []))) (v ∷ []) (at idle 2 rows (Some (codes "cert", v ∷ [])))
unfolding clap_on_literals
certificate_read rows v plain = plain_step (option (codes "cert")) 2 rows (Some (codes "cert", [])) v plain refl

-- what waits, the rows, and what is pending between two parts
abbrev State : Type 0
State = Waiting × List Row × Pending

abbrev place : State → Walk
place s = at s.0 2 s.1 s.2

abbrev after_option : Text → Option Text → State → State
after_option id None s = s
after_option id (Some v) s = (idle, settled_rows rules s.2 s.1, Some (id, v ∷ []))

abbrev json_rows : State → List Row
json_rows s = used_by_id (arg_by_id rules (codes "json")) [] (settled_rows rules s.2 s.1)

abbrev after_json : Bool → State → State
after_json false s = s
after_json true s = (idle, json_rows s, None)

rules_steps : (s : State) (o : Option Text) → Settles s.1 s.2 → IsPlainIfGiven o → Steps (place s) (option_words (codes "--rules") o) (place (after_option (codes "rules") o s))
rules_steps s None settles plain = none (place s)
rules_steps s (Some v) settles plain =
    joined (place s) (at (option (codes "rules")) 2 (settled_rows rules s.2 s.1) (Some (codes "rules", []))) (place (after_option (codes "rules") (Some v) s)) (codes "--rules" ∷ []) (v ∷ [])
    (rules_flag s.1 s.2 settles s.0) (rules_read (settled_rows rules s.2 s.1) v plain)

depth_steps : (s : State) (o : Option Text) → Settles s.1 s.2 → IsPlainIfGiven o → Steps (place s) (option_words (codes "--depth") o) (place (after_option (codes "depth") o s))
depth_steps s None settles plain = none (place s)
depth_steps s (Some v) settles plain =
    joined (place s) (at (option (codes "depth")) 2 (settled_rows rules s.2 s.1) (Some (codes "depth", []))) (place (after_option (codes "depth") (Some v) s)) (codes "--depth" ∷ []) (v ∷ [])
    (depth_flag s.1 s.2 settles s.0) (depth_read (settled_rows rules s.2 s.1) v plain)

certificate_steps : (s : State) (o : Option Text) → Settles s.1 s.2 → IsPlainIfGiven o → Steps (place s) (option_words (codes "--cert") o) (place (after_option (codes "cert") o s))
certificate_steps s None settles plain = none (place s)
certificate_steps s (Some v) settles plain =
    joined (place s) (at (option (codes "cert")) 2 (settled_rows rules s.2 s.1) (Some (codes "cert", []))) (place (after_option (codes "cert") (Some v) s)) (codes "--cert" ∷ []) (v ∷ [])
    (certificate_flag s.1 s.2 settles s.0) (certificate_read (settled_rows rules s.2 s.1) v plain)

abbrev json_fault : List Row → Kinds
json_fault rs = option_map_or (λ a. use_fault false a [] rs) (arg_by_id rules (codes "json")) []

json_passes : (rows : List Row) → has_row (codes "json") rows ≡ false → json_fault rows ≡ []
unfolding clap_on_literals
json_passes rows fresh = rw fresh refl

json_flag : (w : Waiting) (rows : List Row) (pending : Pending) → Settles rows pending → has_row (codes "json") (settled_rows rules pending rows) ≡ false
    → Steps (at w 2 rows pending) (codes "--json" ∷ []) (at idle 2 (used_by_id (arg_by_id rules (codes "json")) [] (settled_rows rules pending rows)) None)
unfolding clap_on_literals
json_flag w rows pending settles fresh = go w
  where
    passes : or_else (or_else (settle_fault rules false (held rows pending)) (json_fault (settled_rows rules pending rows))) [] ≡ []
    passes = ap (λ (k : Kinds). or_else (or_else k (json_fault (settled_rows rules pending rows))) []) settles ∙ ap (λ (k : Kinds). or_else k []) (json_passes (settled_rows rules pending rows) fresh)

    go : (v : Waiting) → Steps (at v 2 rows pending) (codes "--json" ∷ []) (at idle 2 (used_by_id (arg_by_id rules (codes "json")) [] (settled_rows rules pending rows)) None)
    go idle = one (at idle 2 rows pending) (at idle 2 (used_by_id (arg_by_id rules (codes "json")) [] (settled_rows rules pending rows)) None) (codes "--json") passes refl
    go (option id) = one (at (option id) 2 rows pending) (at idle 2 (used_by_id (arg_by_id rules (codes "json")) [] (settled_rows rules pending rows)) None) (codes "--json") passes refl
    go positional = one (at positional 2 rows pending) (at idle 2 (used_by_id (arg_by_id rules (codes "json")) [] (settled_rows rules pending rows)) None) (codes "--json") passes refl

json_steps : (s : State) (j : Bool) → Settles s.1 s.2 → has_row (codes "json") (settled_rows rules s.2 s.1) ≡ false → Steps (place s) (json_words j) (place (after_json j s))
json_steps s false settles fresh = none (place s)
json_steps s true settles fresh = json_flag s.0 s.1 s.2 settles fresh

-- ---- certify FILE

abbrev named : Text → State
named file = (positional, job_rows (codes "certify"), name_pending file)

abbrev with_rules : Text → Option Text → State
with_rules file r = after_option (codes "rules") r (named file)

abbrev with_depth : Text → Option Text → Option Text → State
with_depth file r d = after_option (codes "depth") d (with_rules file r)

abbrev with_certificate : Text → Option Text → Option Text → Option Text → State
with_certificate file r d c = after_option (codes "cert") c (with_depth file r d)

settles_rules : (file : Text) (r : Option Text) → Settles (with_rules file r).1 (with_rules file r).2
unfolding clap_on_literals
settles_rules file None = refl
settles_rules file (Some r) = refl

settles_depth : (file : Text) (r d : Option Text) → Settles (with_depth file r d).1 (with_depth file r d).2
unfolding clap_on_literals
settles_depth file None None = refl
settles_depth file None (Some d) = refl
settles_depth file (Some r) None = refl
settles_depth file (Some r) (Some d) = refl

settles_certificate : (file : Text) (r d c : Option Text) → Settles (with_certificate file r d c).1 (with_certificate file r d c).2
unfolding clap_on_literals
settles_certificate file None None None = refl
settles_certificate file None None (Some c) = refl
settles_certificate file None (Some d) None = refl
settles_certificate file None (Some d) (Some c) = refl
settles_certificate file (Some r) None None = refl
settles_certificate file (Some r) None (Some c) = refl
settles_certificate file (Some r) (Some d) None = refl
settles_certificate file (Some r) (Some d) (Some c) = refl

no_json : (file : Text) (r d c : Option Text) → has_row (codes "json") (settled_rows rules (with_certificate file r d c).2 (with_certificate file r d c).1) ≡ false
unfolding clap_on_literals
no_json file None None None = refl
no_json file None None (Some c) = refl
no_json file None (Some d) None = refl
no_json file None (Some d) (Some c) = refl
no_json file (Some r) None None = refl
no_json file (Some r) None (Some c) = refl
no_json file (Some r) (Some d) None = refl
no_json file (Some r) (Some d) (Some c) = refl

certify_end : (file : Text) (r d c : Option Text) (j : Bool) → end_job (place (after_json j (with_certificate file r d c))) ≡ certify_with file (rules_value r) (depth_value d) c j
unfolding clap_on_literals
certify_end file None None None false = refl
certify_end file None None None true = refl
certify_end file None None (Some c) false = refl
certify_end file None None (Some c) true = refl
certify_end file None (Some d) None false = refl
certify_end file None (Some d) None true = refl
certify_end file None (Some d) (Some c) false = refl
certify_end file None (Some d) (Some c) true = refl
certify_end file (Some r) None None false = refl
certify_end file (Some r) None None true = refl
certify_end file (Some r) None (Some c) false = refl
certify_end file (Some r) None (Some c) true = refl
certify_end file (Some r) (Some d) None false = refl
certify_end file (Some r) (Some d) None true = refl
certify_end file (Some r) (Some d) (Some c) false = refl
certify_end file (Some r) (Some d) (Some c) true = refl

settles_named : (file : Text) → Settles (named file).1 (named file).2
unfolding clap_on_literals
settles_named file = refl

named_steps : (job file : Text) (words : List Text) (end : Walk) → IsPlain job → IsPlain file → Steps (at positional 2 (job_rows job) (name_pending file)) words end → Steps start (job ∷ file ∷ words) end
named_steps job file words end plain_job plain_file rest =
    joined start (at idle 2 [] (job_pending job)) end (job ∷ []) (file ∷ words) (job_step job plain_job)
    (joined (at idle 2 [] (job_pending job)) (at positional 2 (job_rows job) (name_pending file)) end (file ∷ []) words (name_step job file plain_file) rest)

certify_asked : (file : Text) (r d c : Option Text) (j : Bool) → IsPlain file → IsPlainIfGiven r → IsPlainIfGiven d → IsPlainIfGiven c
    → asked (codes "certify" ∷ file ∷ (option_words (codes "--rules") r ++ (option_words (codes "--depth") d ++ (option_words (codes "--cert") c ++ json_words j))))
    ≡ certify_with file (rules_value r) (depth_value d) c j
certify_asked file r d c j plain_file plain_r plain_d plain_c =
    let one' = rules_steps (named file) r (settles_named file) plain_r in
    let two' = depth_steps (with_rules file r) d (settles_rules file r) plain_d in
    let three' = certificate_steps (with_depth file r d) c (settles_depth file r d) plain_c in
    let four' = json_steps (with_certificate file r d c) j (settles_certificate file r d c) (no_json file r d c) in
    let end = place (after_json j (with_certificate file r d c)) in
    let steps = joined (place (named file)) (place (with_rules file r)) end (option_words (codes "--rules") r) (option_words (codes "--depth") d ++ (option_words (codes "--cert") c ++ json_words j)) one'
    (joined (place (with_rules file r)) (place (with_depth file r d)) end (option_words (codes "--depth") d) (option_words (codes "--cert") c ++ json_words j) two'
    (joined (place (with_depth file r d)) (place (with_certificate file r d c)) end (option_words (codes "--cert") c) (json_words j) three' four')) in
    concluded (codes "certify" ∷ file ∷ (option_words (codes "--rules") r ++ (option_words (codes "--depth") d ++ (option_words (codes "--cert") c ++ json_words j)))) end
    (named_steps (codes "certify") file (option_words (codes "--rules") r ++ (option_words (codes "--depth") d ++ (option_words (codes "--cert") c ++ json_words j))) end (eqb-false 99 45 refl) plain_file steps)
    ∙ certify_end file r d c j

-- ---- the other jobs

abbrev checked : Text → Text → State
checked file certificate = (positional, named_rows (codes "check") file, name_pending certificate)

settles_checked : (file certificate : Text) → Settles (checked file certificate).1 (checked file certificate).2
unfolding clap_on_literals
settles_checked file certificate = refl

check_end : (file certificate : Text) (r : Option Text) → end_job (place (after_option (codes "rules") r (checked file certificate))) ≡ option_map (jobs.check file certificate) (rules_value r)
unfolding clap_on_literals
check_end file certificate None = refl
check_end file certificate (Some r) = refl

check_asked : (file certificate : Text) (r : Option Text) → IsPlain file → IsPlain certificate → IsPlainIfGiven r
    → asked (codes "check" ∷ file ∷ certificate ∷ option_words (codes "--rules") r) ≡ option_map (jobs.check file certificate) (rules_value r)
check_asked file certificate r plain_file plain_certificate plain_r =
    let end = place (after_option (codes "rules") r (checked file certificate)) in
    let steps = joined (at positional 2 (job_rows (codes "check")) (name_pending file)) (place (checked file certificate)) end (certificate ∷ []) (option_words (codes "--rules") r)
    (next_step (codes "check") file certificate plain_certificate) (rules_steps (checked file certificate) r (settles_checked file certificate) plain_r) in
    concluded (codes "check" ∷ file ∷ certificate ∷ option_words (codes "--rules") r) end
    (named_steps (codes "check") file (certificate ∷ option_words (codes "--rules") r) end (eqb-false 99 45 refl) plain_file steps)
    ∙ check_end file certificate r

show_asked : (file : Text) → IsPlain file → asked (codes "show" ∷ file ∷ []) ≡ Some (jobs.show file)
unfolding clap_on_literals
show_asked file plain =
    let end = at positional 2 (job_rows (codes "show")) (name_pending file) in
    concluded (codes "show" ∷ file ∷ []) end (named_steps (codes "show") file [] end (eqb-false 115 45 refl) plain (none end))

table_asked : asked (codes "table" ∷ []) ≡ Some jobs.table
unfolding clap_on_literals
table_asked = concluded (codes "table" ∷ []) (at idle 2 [] (job_pending (codes "table"))) (job_step (codes "table") (eqb-false 116 45 refl))

generate_asked : (word : Text) → IsPlain word → asked (codes "gen" ∷ word ∷ []) ≡ option_map jobs.generate (number_of word)
unfolding clap_on_literals
generate_asked word plain =
    let end = at positional 2 (job_rows (codes "gen")) (name_pending word) in
    concluded (codes "gen" ∷ word ∷ []) end (named_steps (codes "gen") word [] end (eqb-false 103 45 refl) plain (none end))

-- ---- the values

rules_stated : (r : Option Rules) → rules_value (option_map rules_word r) ≡ Some (unwrap_or r Usual)
rules_stated None = refl
rules_stated (Some Usual) = refl
rules_stated (Some Strict) = refl
rules_stated (Some Later) = refl

rules_plain : (r : Option Rules) → IsPlainIfGiven (option_map rules_word r)
rules_plain None = tt
rules_plain (Some Usual) = eqb-false 117 45 refl
rules_plain (Some Strict) = eqb-false 115 45 refl
rules_plain (Some Later) = eqb-false 108 45 refl

depth_stated : (d : Option Depth) → depth_value (option_map depth_word d) ≡ Some (unwrap_or d Two)
depth_stated None = refl
depth_stated (Some One) = refl
depth_stated (Some Two) = refl

depth_plain : (d : Option Depth) → IsPlainIfGiven (option_map depth_word d)
depth_plain None = tt
depth_plain (Some One) = eqb-false 49 45 refl
depth_plain (Some Two) = eqb-false 50 45 refl

pub stated_forms_are_asked : StatedFormsAreAsked
stated_forms_are_asked (certify file r d c j) form =
    certify_asked file (option_map rules_word r) (option_map depth_word d) c j form.0 (rules_plain r) (depth_plain d) form.1
    ∙ ap₂ (λ (x : Option Rules) (y : Option Depth). certify_with file x y c j) (rules_stated r) (depth_stated d)
stated_forms_are_asked (check file certificate r) form =
    check_asked file certificate (option_map rules_word r) form.0 form.1 (rules_plain r) ∙ ap (option_map (jobs.check file certificate)) (rules_stated r)
stated_forms_are_asked (show file) form = show_asked file form
stated_forms_are_asked table form = table_asked
stated_forms_are_asked (generate word n) form = generate_asked word form.0 ∙ ap (option_map jobs.generate) form.1
