-- Where no number, and so no command `serve`, is read of the matches of a subcommand.
use Rattle.std.proofs.Common.{◌≡◌, ◌≤◌, ◌∙◌, ℕ, Bool, true, Option, Some, None, List, [], Result, Err, IfNone, String, ap, arith, codes, inr, is_some, slice_index}
use Rattle.std.specs.declared.alloc.Global.{Global}
use Rattle.std.specs.Str.Parse.{ParsesUnsigned}
use Rattle.clap.specs.Matches.{ReadsOne}
use Rattle.clap.specs.Words.{Kinds, Row, Text, first_of, one_text, rows_of}
use Rattle.clap.specs.declared.parser.matches.Found.{Found}
use Rattle.clap.proofs.WalkLemmas.{one_text-rows}
use Rattle.book_desk_words.specs.CommandLine.{HasCounts, HasNumber, IsRefused, ListensNowhere, MatchesNone, MayHaveNumber, ReadsAs, ReadsNone}
use Rattle.book_desk_words.specs.declared.commands.Command.TheVariants.{Explain, Card, Init, Import, Check, Audit, Migrate, Why, Who, Rights, Ask, Differs, Dump, Show, Load, Compact, Backup, CheckBackup, Restore, Doctor, Denials, Pipe, Serve, Help, Version}
use Rattle.book_desk_words.specs.declared.commands.WordsFault.{WordsFault}
use Rattle.book_desk_words.specs.declared.commands.WordsFault.TheVariants.{Usage, Memory}
use Rattle.book_desk_words.specs.WordsFaults.{IsUsage, serve_wants}

-- no number of two bytes is read of this option
abbrev pub HasNoNumber : List Row → Text → Type 0
HasNoNumber rows id = (n : ℕ) → n ≤ 65535 → HasNumber rows id n → ⊥

pub no_number : (E : Type 0) (G : Text → Result ℕ E → Type 0) (f : Found) (id : Text) (r : Option ℕ)
    → ((t : Text) → one_text f id ≡ Some t → ReadsOne G t r)
    → ((t : Text) (x : Result ℕ E) → G t x → ParsesUnsigned {E = E} 16 10 t x) → IfNone r (HasNoNumber (rows_of f) id)
no_number E G f id (Some n) only value = tt
no_number E G f id None only value = λ n small has.
    let g = only has.0 (one_text-rows f id ∙ has.1) in
    let value_is = has.3 in
    value has.0 (Err g.0) g.1 (has.2, omega arith)

-- there is none, so what holds then holds
pub none_is : {T : Type 0} (o : Option T) (P : Type 0) → o ≡ None → IfNone o P → P
none_is None P is p = p
none_is (Some x) P is p = absurd (cc (is))

-- what holds holds where there is none
pub for_none : {T : Type 0} (o : Option T) (P : Type 0) → P → IfNone o P
for_none None P p = p
for_none (Some x) P p = tt

pub not_given : (o : Option Text) → is_some o ≡ true → o ≡ None → ⊥
not_given None is none = cc (is)
not_given (Some t) is none = cc (none)

-- what is given is no number
pub no_count : (rows : List Row) (id : Text) (most : ℕ) → is_some (first_of id rows) ≡ true → most ≤ 65535 → HasNoNumber rows id
    → (count : Option ℕ) → MayHaveNumber rows id most count → ⊥
no_count rows id most is small none None without = not_given (first_of id rows) is without
no_count rows id most is small none (Some n) has = let within : n ≤ most = has.2 in none n (omega arith) has.0

is_not_init : codes "serve" ≡ codes "init" → ⊥
is_not_init e = cc (e)

is_not_import : codes "serve" ≡ codes "import" → ⊥
is_not_import e = cc (e)

is_not_audit : codes "serve" ≡ codes "audit" → ⊥
is_not_audit e = let first : slice_index (codes "serve") 0 ≡ slice_index (codes "audit") 0 = ap (λ (t : Text). slice_index t 0) e in omega arith

is_not_check : codes "serve" ≡ codes "check" → ⊥
is_not_check e = let first : slice_index (codes "serve") 0 ≡ slice_index (codes "check") 0 = ap (λ (t : Text). slice_index t 0) e in omega arith

is_not_migrate : codes "serve" ≡ codes "migrate" → ⊥
is_not_migrate e = cc (e)

is_not_pipe : codes "serve" ≡ codes "pipe" → ⊥
is_not_pipe e = cc (e)

is_not_why : codes "serve" ≡ codes "why" → ⊥
is_not_why e = cc (e)

is_not_who : codes "serve" ≡ codes "who" → ⊥
is_not_who e = cc (e)

is_not_rights : codes "serve" ≡ codes "rights" → ⊥
is_not_rights e = cc (e)

is_not_ask : codes "serve" ≡ codes "ask" → ⊥
is_not_ask e = cc (e)

is_not_differs : codes "serve" ≡ codes "differs" → ⊥
is_not_differs e = let first : slice_index (codes "serve") 0 ≡ slice_index (codes "differs") 0 = ap (λ (t : Text). slice_index t 0) e in omega arith

is_not_dump : codes "serve" ≡ codes "dump" → ⊥
is_not_dump e = cc (e)

is_not_show : codes "serve" ≡ codes "show" → ⊥
is_not_show e = cc (e)

is_not_load : codes "serve" ≡ codes "load" → ⊥
is_not_load e = cc (e)

is_not_compact : codes "serve" ≡ codes "compact" → ⊥
is_not_compact e = let first : slice_index (codes "serve") 0 ≡ slice_index (codes "compact") 0 = ap (λ (t : Text). slice_index t 0) e in omega arith

is_not_backup : codes "serve" ≡ codes "backup" → ⊥
is_not_backup e = cc (e)

is_not_restore : codes "serve" ≡ codes "restore" → ⊥
is_not_restore e = let first : slice_index (codes "serve") 0 ≡ slice_index (codes "restore") 0 = ap (λ (t : Text). slice_index t 0) e in omega arith

is_not_doctor : codes "serve" ≡ codes "doctor" → ⊥
is_not_doctor e = cc (e)

is_not_denials : codes "serve" ≡ codes "denials" → ⊥
is_not_denials e = let first : slice_index (codes "serve") 0 ≡ slice_index (codes "denials") 0 = ap (λ (t : Text). slice_index t 0) e in omega arith

module _ (rows : List Row) where
  -- no command `serve` is read of the matches
  serve_lacks : ((port : Option ℕ) (socket : Option (String Global)) (mode : ℕ) (connections at_once idle : Option ℕ)
      (control store policy log : Option (String Global)) (existing : Bool)
      → ReadsAs (codes "serve") rows (Serve port socket mode connections at_once idle control store policy existing log) → ⊥) → ReadsNone (codes "serve") rows
  serve_lacks none Explain e = cc (e)
  serve_lacks none Card e = cc (e)
  serve_lacks none (Init folder) r = is_not_init r.0
  serve_lacks none (Import office policy) r = is_not_import r.0
  serve_lacks none (Check policy strict office) r = is_not_check r.0
  serve_lacks none (Audit office existing at books labels) r = is_not_audit r.0
  serve_lacks none (Migrate store) r = is_not_migrate r.0
  serve_lacks none (Why office caller what path destination json) r = is_not_why r.0
  serve_lacks none (Who office privilege path denied json) r = is_not_who r.0
  serve_lacks none (Rights office at caller shared json) r = is_not_rights r.0
  serve_lacks none (Ask office caller path privileges) r = is_not_ask r.0
  serve_lacks none (Differs office policy strict) r = is_not_differs r.0
  serve_lacks none (Dump office) r = is_not_dump r.0
  serve_lacks none (Show office path) r = is_not_show r.0
  serve_lacks none (Load store dump owners at without heir forget_removed new_epoch above) r = is_not_load r.0
  serve_lacks none (Compact store forget_removed) r = is_not_compact r.0
  serve_lacks none (Backup store to) r = is_not_backup r.0
  serve_lacks none (CheckBackup store copy) r = is_not_backup r.0
  serve_lacks none (Restore store from paths) r = is_not_restore r.0
  serve_lacks none (Doctor store) r = is_not_doctor r.0
  serve_lacks none (Denials log since json) r = is_not_denials r.0
  serve_lacks none (Pipe store policy log) r = is_not_pipe r.0
  serve_lacks none (Serve port socket mode connections at_once idle control store policy existing log) r = none port socket mode connections at_once idle control store policy log existing r
  serve_lacks none (Help text) r = r
  serve_lacks none (Version text) r = r

  pub without_places : ListensNowhere rows → ReadsNone (codes "serve") rows
  without_places none = serve_lacks (λ port socket mode connections at_once idle control store policy log existing r. none port socket mode r.1)

  pub without_counts : ((connections at_once idle : Option ℕ) → HasCounts rows connections at_once idle → ⊥) → ReadsNone (codes "serve") rows
  without_counts none = serve_lacks (λ port socket mode connections at_once idle control store policy log existing r. none connections at_once idle r.2)

-- clap lets the words pass, no command is read of their matches, and that is told
pub none_told : (found : Option (Text × List Row)) (kinds : Kinds) (fault : WordsFault)
    → kinds ≡ [] → MatchesNone found → IsUsage serve_wants fault → IsRefused found kinds fault
none_told found kinds (Usage text) passes none told = inr (passes, none, told)
none_told found kinds Memory passes none told = tt
