-- What a request asks, with the words of its body (own profile).
use Rattle.std.specs.Prelude.{ℕ, Bool, true, false, ◌==◌, if◌then◌else◌, List, length, codes, Option, None, Some, option_map, option_and_then}
use Rattle.serde_json.specs.Data.{Data}
use Rattle.book_desk_control.specs.Words.{flag_at, object_of, text_at, text_if, words_at}
use Rattle.book_desk_control.specs.declared.demands.Bare.{Bare}
use Rattle.book_desk_control.specs.declared.demands.Bare.TheVariants as bare
use Rattle.book_desk_control.specs.declared.demands.Demand.{Demand}
use Rattle.book_desk_control.specs.declared.demands.Demand.TheVariants as demand
use Rattle.book_desk_control.specs.declared.demands.WhyBody.{WhyBody}
use Rattle.book_desk_control.specs.declared.questions.Question.{Question}
use Rattle.book_desk_control.specs.declared.questions.Question.TheVariants as question
use Rattle.book_desk_control.specs.declared.words.Form.{Form}
use Rattle.book_desk_control.specs.declared.words.Form.TheVariants as form

abbrev pub audit_of : Option (Option (List ℕ)) → Option Bool → Option Bool → Option Demand
audit_of (Some at) (Some books) (Some labels) = Some (demand.Audit (record { at = at; books = books; labels = labels }))
audit_of _ _ _ = None

-- each word may be left out
abbrev pub audit_demand : Data → Option Demand
audit_demand d = audit_of (text_if (codes "at") d) (flag_at (codes "books") d) (flag_at (codes "labels") d)

abbrev pub why_body : List ℕ → List ℕ → List ℕ → Option (List ℕ) → Bool → WhyBody
why_body caller what path destination json =
    record { caller = caller; what = what; path = path; destination = destination; json = json }

abbrev pub why_of : Option (List ℕ) → Option (List ℕ) → Option (List ℕ) → Option (Option (List ℕ)) → Option Bool → Option Demand
why_of (Some caller) (Some what) (Some path) (Some destination) (Some json) =
    Some (demand.Why (why_body caller what path destination json))
why_of _ _ _ _ _ = None

-- the destination and whether objects are told may be left out
abbrev pub why_demand : Data → Option Demand
why_demand d =
    why_of (text_at (codes "caller") d) (text_at (codes "what") d) (text_at (codes "path") d) (text_if (codes "destination") d)
    (flag_at (codes "json") d)

abbrev pub who_of : Option (List ℕ) → Option (List ℕ) → Option Bool → Option Bool → Option Demand
who_of (Some privilege) (Some path) (Some denied) (Some json) =
    Some (demand.Who (record { privilege = privilege; path = path; denied = denied; json = json }))
who_of _ _ _ _ = None

abbrev pub who_demand : Data → Option Demand
who_demand d =
    who_of (text_at (codes "privilege") d) (text_at (codes "path") d) (flag_at (codes "denied") d) (flag_at (codes "json") d)

abbrev pub rights_of : Option (Option (List ℕ)) → Option (Option (List ℕ)) → Option Bool → Option Bool → Option Demand
rights_of (Some at) (Some caller) (Some shared) (Some json) =
    Some (demand.Rights (record { at = at; caller = caller; shared = shared; json = json }))
rights_of _ _ _ _ = None

-- each word may be left out
abbrev pub rights_demand : Data → Option Demand
rights_demand d =
    rights_of (text_if (codes "at") d) (text_if (codes "caller") d) (flag_at (codes "shared") d) (flag_at (codes "json") d)

abbrev pub ask_of : Option (List ℕ) → Option (List ℕ) → Option (List (List ℕ)) → Option Demand
ask_of (Some caller) (Some path) (Some privileges) =
    Some (demand.Ask (record { caller = caller; path = path; privileges = privileges }))
ask_of _ _ _ = None

abbrev pub ask_demand : Data → Option Demand
ask_demand d = ask_of (text_at (codes "caller") d) (text_at (codes "path") d) (words_at (codes "privileges") d)

abbrev pub show_demand : Data → Option Demand
show_demand d = option_map demand.Show (text_at (codes "path") d)

abbrev pub backup_demand : Data → Option Demand
backup_demand d = option_map demand.Backup (text_at (codes "to") d)

abbrev pub demand_in : Form → Data → Option Demand
demand_in form.Audit d = audit_demand d
demand_in form.Why d = why_demand d
demand_in form.Who d = who_demand d
demand_in form.Rights d = rights_demand d
demand_in form.Ask d = ask_demand d
demand_in form.Show d = show_demand d
demand_in form.Backup d = backup_demand d

-- what the object of a body asks
abbrev pub words_demand : Form → List ℕ → Option Demand
words_demand f bytes = option_and_then (demand_in f) (object_of f bytes)

abbrev pub demand_without : Bare → Demand
demand_without bare.Health = demand.Health
demand_without bare.Metrics = demand.Metrics
demand_without bare.Dump = demand.Dump
demand_without bare.Stop = demand.Stop

-- what is asked without a body, where there is none
abbrev pub bare_demand : Bare → List ℕ → Option Demand
bare_demand b bytes = if length bytes == 0 then Some (demand_without b) else None

-- what a question asks with this body; a policy is taken as it is
abbrev pub demand_of : Question → List ℕ → Option Demand
demand_of question.Health bytes = bare_demand bare.Health bytes
demand_of question.Metrics bytes = bare_demand bare.Metrics bytes
demand_of question.Audit bytes = words_demand form.Audit bytes
demand_of question.Why bytes = words_demand form.Why bytes
demand_of question.Who bytes = words_demand form.Who bytes
demand_of question.Rights bytes = words_demand form.Rights bytes
demand_of question.Ask bytes = words_demand form.Ask bytes
demand_of question.Show bytes = words_demand form.Show bytes
demand_of (question.Check strict) bytes = Some (demand.Check bytes strict)
demand_of (question.Differs strict) bytes = Some (demand.Differs bytes strict)
demand_of question.Policy bytes = Some (demand.Policy bytes)
demand_of question.Dump bytes = bare_demand bare.Dump bytes
demand_of question.Backup bytes = words_demand form.Backup bytes
demand_of question.Stop bytes = bare_demand bare.Stop bytes

-- nothing else asks that the server ends
abbrev pub asks_end : Demand → Bool
asks_end demand.Health = false
asks_end demand.Metrics = false
asks_end (demand.Audit body) = false
asks_end (demand.Why body) = false
asks_end (demand.Who body) = false
asks_end (demand.Rights body) = false
asks_end (demand.Ask body) = false
asks_end (demand.Show path) = false
asks_end (demand.Check policy strict) = false
asks_end (demand.Differs policy strict) = false
asks_end (demand.Policy policy) = false
asks_end demand.Dump = false
asks_end (demand.Backup name) = false
asks_end demand.Stop = true
