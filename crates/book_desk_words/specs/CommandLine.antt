-- The command line (own profile): the words that it has, and the command that clap's matches of them give.
use Rattle.std.specs.Prelude.{◌≡◌, ◌≢◌, ◌⊎◌, ◌&&◌, ◌||◌, not, ℕ, ◌≤◌, pos, Bool, true, false, List, [], ◌∷◌, ◌++◌, codes, fold, Result, IfOk, Option, Some, None, is_none, is_some, length, String, option_map, map, string_bytes, bytes_eq, Vec}
use Rattle.std.specs.declared.alloc.AllocError.{AllocError}
use Rattle.std.specs.declared.alloc.Global.{Global}
use Rattle.std.specs.Str.Parse.{IsNumeral, digits_value, without_leading_plus}
use Rattle.clap.specs.Words.{App, app_of, Row, Rule, Text, all_of, first_of, new_app, new_rule, one_of, with_rule, with_subcommand}
use Rattle.clap.specs.Kinds.{Kinds, IsAmong}
use Rattle.clap.specs.declared.builder.command.Command.{Command as clap-Command}
use Rattle.clap.specs.declared.builder.command.Command.TheViews.{out-Command}
use Rattle.clap.specs.Simple.{on_top}
use Rattle.clap.specs.declared.builder.action.ArgAction.TheVariants.{Append, SetTrue}
use Rattle.clap.specs.declared.builder.value_parser.ValueParser.TheVariants as parsers
use Rattle.clap.specs.declared.error.kind.ErrorKind.{ErrorKind}
use Rattle.clap.specs.declared.error.kind.ErrorKind.TheVariants as kind
use Rattle.book_desk_words.specs.declared.commands.Command.{Command}
use Rattle.book_desk_words.specs.declared.commands.Command.TheVariants.{Explain, Card, Init, Import, Check, Audit, Migrate, Why, Who, Rights, Ask, Differs, Dump, Show, Load, Compact, Backup, CheckBackup, Restore, Doctor, Denials, Pipe, Serve, Help, Version}
use Rattle.book_desk_words.specs.declared.offices.Office.{Office}
use Rattle.book_desk_words.specs.declared.offices.Office.TheVariants.{Store, Control}
use Rattle.book_desk_words.specs.declared.commands.WordsFault.{WordsFault}
use Rattle.book_desk_words.specs.declared.commands.WordsFault.TheVariants.{Usage, Memory}
use Rattle.book_desk_words.specs.WordsFaults.{IsUsage, serve_wants}

-- ---- the words that it has

-- an option --NAME with one value
abbrev pub option_rule : Text → Rule
option_rule name = record (new_rule name) { long = Some name; value_names = 1 }

-- one with a number from least to most
abbrev pub counted_rule : Text → ℕ → ℕ → Rule
counted_rule name least most = record (option_rule name) { parser = Some (parsers.Signed (pos least) (pos most)) }

-- one that is required, with one value
abbrev pub required_rule : Text → Rule
required_rule name = record (option_rule name) { required = true }

-- an option --NAME without a value
abbrev pub flag_rule : Text → Rule
flag_rule name = record (new_rule name) { long = Some name; action = Some SetTrue }

-- a word that is required and follows no option's name
abbrev pub word_rule : Text → Rule
word_rule name = record (new_rule name) { value_names = 1; required = true }

-- words, one at least, that follow no option's name
abbrev pub words_rule : Text → Rule
words_rule name = record (word_rule name) { action = Some Append }

-- one with a number of 64 bits
abbrev pub whole_rule : Text → Rule
whole_rule name = record (option_rule name) { parser = Some (parsers.Unsigned 0 18446744073709551615) }

-- an option --NAME with a value, any number of times
abbrev pub options_rule : Text → Rule
options_rule name = record (option_rule name) { action = Some Append }

-- a word that may follow, and follows no option's name
abbrev pub last_word_rule : Text → Rule
last_word_rule name = record (new_rule name) { value_names = 1 }

-- a command of this name whose arguments have these rules, in this order
abbrev pub command_app : Text → List Rule → App
command_app name rules = fold with_rule (new_app name) rules

-- the store, and whether it is told why it can't be had
abbrev pub store_rules : List Rule
store_rules = required_rule (codes "store") ∷ flag_rule (codes "cause") ∷ []

-- the store, or the control of the server that has it, and whether it is told why the store can't be had
abbrev pub office_rules : List Rule
office_rules = option_rule (codes "store") ∷ option_rule (codes "control") ∷ flag_rule (codes "cause") ∷ []

abbrev pub explain_app : App
explain_app = new_app (codes "explain")

abbrev pub card_app : App
card_app = new_app (codes "card")

abbrev pub init_app : App
init_app = command_app (codes "init") (word_rule (codes "folder") ∷ [])

abbrev pub import_app : App
import_app = command_app (codes "import") (office_rules ++ word_rule (codes "policy") ∷ [])

abbrev pub check_app : App
check_app = command_app (codes "check") (word_rule (codes "policy") ∷ flag_rule (codes "strict") ∷ office_rules)

abbrev pub differs_app : App
differs_app = command_app (codes "differs") (office_rules ++ word_rule (codes "policy") ∷ flag_rule (codes "strict") ∷ [])

-- which part is printed, and what of it
abbrev pub part_rules : List Rule
part_rules = option_rule (codes "at") ∷ flag_rule (codes "books") ∷ flag_rule (codes "labels") ∷ []

abbrev pub audit_app : App
audit_app = command_app (codes "audit") (office_rules ++ flag_rule (codes "existing") ∷ part_rules)

abbrev pub migrate_app : App
migrate_app = command_app (codes "migrate") store_rules

-- who asks, what, and where
abbrev pub why_app : App
why_app =
    command_app (codes "why") (office_rules ++ word_rule (codes "caller") ∷ word_rule (codes "what") ∷ word_rule (codes "path")
    ∷ last_word_rule (codes "destination") ∷ flag_rule (codes "json") ∷ [])

-- a privilege, and where
abbrev pub who_app : App
who_app =
    command_app (codes "who") (office_rules ++ word_rule (codes "privilege") ∷ word_rule (codes "path") ∷ flag_rule (codes "denied")
    ∷ flag_rule (codes "json") ∷ [])

-- where rights are told, and whose
abbrev pub rights_app : App
rights_app =
    command_app (codes "rights") (office_rules ++ option_rule (codes "at") ∷ option_rule (codes "caller") ∷ flag_rule (codes "shared")
    ∷ flag_rule (codes "json") ∷ [])

-- who asks, where, and for what
abbrev pub ask_app : App
ask_app =
    command_app (codes "ask") (office_rules ++ word_rule (codes "caller") ∷ word_rule (codes "path") ∷ words_rule (codes "privilege") ∷ [])

abbrev pub dump_app : App
dump_app = command_app (codes "dump") office_rules

abbrev pub show_app : App
show_app = command_app (codes "show") (office_rules ++ word_rule (codes "path") ∷ [])

-- who owns what was somebody's
abbrev pub owners_rules : List Rule
owners_rules =
    options_rule (codes "owner") ∷ option_rule (codes "at") ∷ options_rule (codes "without") ∷ option_rule (codes "heir") ∷ []

-- what of the past is left out
abbrev pub past_rules : List Rule
past_rules = flag_rule (codes "forget-removed") ∷ flag_rule (codes "new-epoch") ∷ whole_rule (codes "above") ∷ []

abbrev pub load_app : App
load_app = command_app (codes "load") (store_rules ++ last_word_rule (codes "dump") ∷ owners_rules ++ past_rules)

abbrev pub compact_app : App
compact_app = command_app (codes "compact") (store_rules ++ flag_rule (codes "forget-removed") ∷ [])

abbrev pub backup_app : App
backup_app = command_app (codes "backup") (store_rules ++ option_rule (codes "to") ∷ option_rule (codes "check") ∷ [])

abbrev pub restore_app : App
restore_app = command_app (codes "restore") (store_rules ++ required_rule (codes "from") ∷ words_rule (codes "path") ∷ [])

abbrev pub doctor_app : App
doctor_app = command_app (codes "doctor") (required_rule (codes "store") ∷ [])

-- a log, and what of it is told, and how
abbrev pub denials_app : App
denials_app = command_app (codes "denials") (word_rule (codes "log") ∷ option_rule (codes "since") ∷ flag_rule (codes "json") ∷ [])

-- the files of the store, of the policy and of the log, and whether it is told why the store can't be had
abbrev pub files_rules : List Rule
files_rules = option_rule (codes "store") ∷ option_rule (codes "policy") ∷ flag_rule (codes "cause") ∷ option_rule (codes "log") ∷ []

abbrev pub pipe_app : App
pipe_app = command_app (codes "pipe") files_rules

-- where is listened
abbrev pub listening_rules : List Rule
listening_rules = counted_rule (codes "port") 0 65535 ∷ option_rule (codes "socket") ∷ option_rule (codes "mode") ∷ []

-- how many connections are served
abbrev pub ends_rules : List Rule
ends_rules = counted_rule (codes "connections") 1 10000 ∷ flag_rule (codes "forever") ∷ []

-- how many are served at once, for how long, and who administers them
abbrev pub pace_rules : List Rule
pace_rules = counted_rule (codes "at-once") 1 1000 ∷ counted_rule (codes "idle") 1 3600 ∷ option_rule (codes "control") ∷ []

abbrev pub serve_app : App
serve_app =
    command_app (codes "serve") (listening_rules ++ ends_rules ++ pace_rules ++ flag_rule (codes "existing") ∷ files_rules)

-- the program, whose words have no name of a program before them
abbrev pub top_app : App
top_app = on_top (λ s. record s { no_binary_name = true; subcommand_required = true; has_version = true }) (new_app (codes "book_desk"))

-- the commands over texts, and those that make, adopt and print
abbrev pub with_first : App → App
with_first app =
    with_subcommand (with_subcommand (with_subcommand (with_subcommand (with_subcommand app
    explain_app.top) card_app.top) init_app.top) import_app.top) audit_app.top

-- those that migrate, tell why, serve and check
abbrev pub with_serving : App → App
with_serving app =
    with_subcommand (with_subcommand (with_subcommand (with_subcommand (with_subcommand app migrate_app.top)
    why_app.top) pipe_app.top) serve_app.top) check_app.top

-- those that ask a store, and the one that asks a log
abbrev pub with_asking : App → App
with_asking app =
    with_subcommand (with_subcommand (with_subcommand (with_subcommand (with_subcommand (with_subcommand (with_subcommand app
    who_app.top) rights_app.top) dump_app.top) show_app.top) ask_app.top) differs_app.top) denials_app.top

-- those that make and keep stores
abbrev pub with_keeping : App → App
with_keeping app =
    with_subcommand (with_subcommand (with_subcommand (with_subcommand (with_subcommand app load_app.top)
    compact_app.top) backup_app.top) restore_app.top) doctor_app.top

-- the whole command line
abbrev pub program_app : App
program_app = with_keeping (with_asking (with_serving (with_first top_app)))

-- a command, if it was made, is that one, and none of its arguments is global
abbrev pub IsMade : App → Result clap-Command AllocError → Type 0
IsMade app made = IfOk made (λ c. (app_of c ≡ app) × ((out-Command c).has_globals ≡ false))

-- a program, if it was made, is that one
abbrev pub IsProgram : App → Result clap-Command AllocError → Type 0
IsProgram app made = IfOk made (λ c. app_of c ≡ app)

-- ---- the command that the matches give

-- an option has this number, in decimal digits
abbrev pub HasNumber : List Row → Text → ℕ → Type 0
HasNumber rows id n =
    (text : Text) × (one_of id rows ≡ Some text) × IsNumeral 10 (without_leading_plus text) × (digits_value 10 (without_leading_plus text) ≡ n)

-- an option has a number from 1 to most, or is not given
abbrev pub MayHaveNumber : List Row → Text → ℕ → Option ℕ → Type 0
MayHaveNumber rows id most (Some n) = HasNumber rows id n × (1 ≤ n) × (n ≤ most)
MayHaveNumber rows id most None = first_of id rows ≡ None

-- the file or folder that an option or a word names, if it does
abbrev pub NamesFile : List Row → Text → Option (String Global) → Type 0
NamesFile rows id file = option_map string_bytes file ≡ first_of id rows

-- one of two is given
abbrev pub is_one : Option Text → Option Text → Bool
is_one (Some file) (Some path) = false
is_one (Some file) None = true
is_one None (Some path) = true
is_one None None = false

-- the words name one of a store's file and a control
abbrev pub names_one : List Row → Bool
names_one rows = is_one (first_of (codes "store") rows) (first_of (codes "control") rows)

-- they name both
abbrev pub names_two : List Row → Bool
names_two rows = is_some (first_of (codes "store") rows) && is_some (first_of (codes "control") rows)

-- the store's file, or the path of the control, that they name
abbrev pub IsOffice : List Row → Office → Type 0
IsOffice rows (Store file) = NamesFile rows (codes "store") (Some file)
IsOffice rows (Control path) = NamesFile rows (codes "control") (Some path)

-- of the two they name this one alone
abbrev pub NamesOffice : List Row → Office → Type 0
NamesOffice rows office = (names_one rows ≡ true) × IsOffice rows office

-- they name this one, if they name any
abbrev pub IsOfficeIf : List Row → Option Office → Type 0
IsOfficeIf rows (Some office) = IsOffice rows office
IsOfficeIf rows None = names_one rows ≡ false

-- they name one of the two at most
abbrev pub MayNameOffice : List Row → Option Office → Type 0
MayNameOffice rows office = (names_two rows ≡ false) × IsOfficeIf rows office

-- the texts that the words give under a name, if they do
abbrev pub HasTexts : List Row → Text → Option (Vec (String Global) Global) → Type 0
HasTexts rows id texts = option_map (λ (v : Vec (String Global) Global). map string_bytes v.items) texts ≡ all_of id rows

-- whether an option without a value was given
abbrev pub is_given : Option Text → Bool
is_given (Some text) = bytes_eq text (codes "true")
is_given None = false

abbrev pub has_flag : List Row → Text → Bool
has_flag rows id = is_given (first_of id rows)

-- one of a number of connections and no end is given; how many at once; and a time-out and a control only where many are served at
-- once
abbrev pub HasCounts : List Row → Option ℕ → Option ℕ → Option ℕ → Type 0
HasCounts rows connections at_once idle =
    MayHaveNumber rows (codes "connections") 10000 connections × (is_none connections ≡ has_flag rows (codes "forever"))
    × MayHaveNumber rows (codes "at-once") 1000 at_once
    × MayHaveNumber rows (codes "idle") 3600 idle × (is_some idle ≡ true → is_some at_once ≡ true)
    × (is_some (first_of (codes "control") rows) ≡ true → is_some at_once ≡ true)

-- an option has the number of a port, or is not given
abbrev pub MayHavePort : List Row → Option ℕ → Type 0
MayHavePort rows (Some port) = HasNumber rows (codes "port") port × (port ≤ 65535)
MayHavePort rows None = first_of (codes "port") rows ≡ None

-- the text writes these permissions, in three or four octal digits
abbrev pub WritesMode : Text → ℕ → Type 0
WritesMode text mode = (3 ≤ length text) × (length text ≤ 4) × IsNumeral 8 text × (digits_value 8 text ≡ mode)

-- these permissions are given, or they are 0600
abbrev pub IsMode : Option Text → ℕ → Type 0
IsMode (Some text) mode = WritesMode text mode
IsMode None mode = mode ≡ 0o600

abbrev pub HasMode : List Row → ℕ → Type 0
HasMode rows mode = IsMode (first_of (codes "mode") rows) mode

-- a socket is given, or a port without permissions
abbrev pub has_places : List Row → Bool
has_places rows =
    is_some (first_of (codes "socket") rows) || (is_some (first_of (codes "port") rows) && not (is_some (first_of (codes "mode") rows)))

abbrev pub ListensAt : List Row → Option ℕ → Option (String Global) → ℕ → Type 0
ListensAt rows port socket mode =
    MayHavePort rows port × NamesFile rows (codes "socket") socket × HasMode rows mode × (has_places rows ≡ true)

abbrev pub ListensNowhere : List Row → Type 0
ListensNowhere rows = (port : Option ℕ) (socket : Option (String Global)) (mode : ℕ) → ListensAt rows port socket mode → ⊥

-- help or the version, asked for in the way of this kind of error
abbrev pub IsAskedBy : ErrorKind → Command → Type 0
IsAskedBy k command =
    ((text : String Global) × (command ≡ Help text) × (k ≡ kind.DisplayHelp))
    ⊎ ((text : String Global) × (command ≡ Version text) × (k ≡ kind.DisplayVersion))

-- a method that leads to a destination
abbrev pub leads_on : Text → Bool
leads_on what = bytes_eq what (codes "COPY") || bytes_eq what (codes "MOVE")

-- the command that a subcommand with these matches is
abbrev pub ReadsAs : Text → List Row → Command → Type 0
ReadsAs name rows Explain = name ≡ codes "explain"
ReadsAs name rows Card = name ≡ codes "card"
ReadsAs name rows (Init folder) = (name ≡ codes "init") × NamesFile rows (codes "folder") (Some folder)
ReadsAs name rows (Import office policy) =
    (name ≡ codes "import") × NamesOffice rows office × NamesFile rows (codes "policy") (Some policy)
ReadsAs name rows (Check policy strict office) =
    (name ≡ codes "check") × NamesFile rows (codes "policy") (Some policy) × (strict ≡ has_flag rows (codes "strict"))
    × MayNameOffice rows office
ReadsAs name rows (Differs office policy strict) =
    (name ≡ codes "differs") × NamesOffice rows office × NamesFile rows (codes "policy") (Some policy)
    × (strict ≡ has_flag rows (codes "strict"))
ReadsAs name rows (Audit office existing at books labels) =
    (name ≡ codes "audit") × NamesOffice rows office × (existing ≡ has_flag rows (codes "existing"))
    × NamesFile rows (codes "at") at × (books ≡ has_flag rows (codes "books")) × (labels ≡ has_flag rows (codes "labels"))
ReadsAs name rows (Migrate store) = (name ≡ codes "migrate") × NamesFile rows (codes "store") (Some store)
ReadsAs name rows (Why office caller what path destination json) =
    (name ≡ codes "why") × NamesOffice rows office × NamesFile rows (codes "caller") (Some caller) × NamesFile rows (codes "what") (Some what)
    × NamesFile rows (codes "path") (Some path) × NamesFile rows (codes "destination") destination
    × (leads_on (string_bytes what) ≡ true → is_some destination ≡ true) × (json ≡ has_flag rows (codes "json"))
ReadsAs name rows (Who office privilege path denied json) =
    (name ≡ codes "who") × NamesOffice rows office × NamesFile rows (codes "privilege") (Some privilege)
    × NamesFile rows (codes "path") (Some path) × (denied ≡ has_flag rows (codes "denied"))
    × (json ≡ has_flag rows (codes "json"))
ReadsAs name rows (Rights office at caller shared json) =
    (name ≡ codes "rights") × NamesOffice rows office × NamesFile rows (codes "at") at × NamesFile rows (codes "caller") caller
    × (shared ≡ has_flag rows (codes "shared")) × (json ≡ has_flag rows (codes "json"))
ReadsAs name rows (Ask office caller path privileges) =
    (name ≡ codes "ask") × NamesOffice rows office × NamesFile rows (codes "caller") (Some caller)
    × NamesFile rows (codes "path") (Some path) × HasTexts rows (codes "privilege") (Some privileges)
ReadsAs name rows (Dump office) = (name ≡ codes "dump") × NamesOffice rows office
ReadsAs name rows (Show office path) =
    (name ≡ codes "show") × NamesOffice rows office × NamesFile rows (codes "path") (Some path)
ReadsAs name rows (Load store dump owners at without heir forget_removed new_epoch above) =
    (name ≡ codes "load") × NamesFile rows (codes "store") (Some store) × NamesFile rows (codes "dump") dump
    × HasTexts rows (codes "owner") owners × NamesFile rows (codes "at") at
    × HasTexts rows (codes "without") without × NamesFile rows (codes "heir") heir
    × (forget_removed ≡ has_flag rows (codes "forget-removed")) × (new_epoch ≡ has_flag rows (codes "new-epoch"))
    × NamesFile rows (codes "above") above
    × (is_some at ≡ true → is_some owners ≡ true) × (is_some heir ≡ true → is_some without ≡ true)
    × (is_some above ≡ true → new_epoch ≡ true)
ReadsAs name rows (Compact store forget_removed) =
    (name ≡ codes "compact") × NamesFile rows (codes "store") (Some store) × (forget_removed ≡ has_flag rows (codes "forget-removed"))
ReadsAs name rows (Backup store to) =
    (name ≡ codes "backup") × NamesFile rows (codes "store") (Some store) × NamesFile rows (codes "to") (Some to)
    × NamesFile rows (codes "check") None
ReadsAs name rows (CheckBackup store copy) =
    (name ≡ codes "backup") × NamesFile rows (codes "store") (Some store) × NamesFile rows (codes "to") None
    × NamesFile rows (codes "check") (Some copy)
ReadsAs name rows (Restore store from paths) =
    (name ≡ codes "restore") × NamesFile rows (codes "store") (Some store) × NamesFile rows (codes "from") (Some from)
    × HasTexts rows (codes "path") (Some paths)
ReadsAs name rows (Doctor store) = (name ≡ codes "doctor") × NamesFile rows (codes "store") (Some store)
ReadsAs name rows (Denials log since json) =
    (name ≡ codes "denials") × NamesFile rows (codes "log") (Some log) × NamesFile rows (codes "since") since
    × (json ≡ has_flag rows (codes "json"))
ReadsAs name rows (Pipe store policy log) =
    (name ≡ codes "pipe") × NamesFile rows (codes "store") store × NamesFile rows (codes "policy") policy
    × NamesFile rows (codes "log") log
ReadsAs name rows (Serve port socket mode connections at_once idle control store policy existing log) =
    (name ≡ codes "serve") × ListensAt rows port socket mode
    × HasCounts rows connections at_once idle
    × NamesFile rows (codes "control") control
    × NamesFile rows (codes "store") store × NamesFile rows (codes "policy") policy
    × (existing ≡ has_flag rows (codes "existing")) × (existing ≡ true → is_some store ≡ true)
    × NamesFile rows (codes "log") log
ReadsAs name rows (Help text) = ⊥
ReadsAs name rows (Version text) = ⊥

-- the command that the matches of the words give
abbrev pub IsMatched : Option (Text × List Row) → Command → Type 0
IsMatched (Some found) command = ReadsAs found.0 found.1 command
IsMatched None command = ⊥

-- no command is read of these matches
abbrev pub ReadsNone : Text → List Row → Type 0
ReadsNone name rows = (command : Command) → ReadsAs name rows command → ⊥

abbrev pub MatchesNone : Option (Text × List Row) → Type 0
MatchesNone found = (command : Command) → IsMatched found command → ⊥

-- the words have no fault and the command is the one that their matches give; or it is help or the version, which a kind of error
-- that they may have asks for
abbrev pub Reads : Option (Text × List Row) → Kinds → Command → Type 0
Reads found kinds command = ((kinds ≡ []) × IsMatched found command) ⊎ ((k : ErrorKind) × IsAmong k kinds × IsAskedBy k command)

-- the words are no command: clap refuses them, and not since they ask for help or the version; or it lets them pass, no command
-- can be read of their matches, and that is told
abbrev pub IsRefused : Option (Text × List Row) → Kinds → WordsFault → Type 0
IsRefused found kinds (Usage text) =
    ((k : ErrorKind) × IsAmong k kinds × (k ≢ kind.DisplayHelp) × (k ≢ kind.DisplayVersion))
    ⊎ ((kinds ≡ []) × MatchesNone found × IsUsage serve_wants (Usage text))
IsRefused found kinds Memory = Unit {0}
