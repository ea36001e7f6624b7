-- From what the getters of clap say to the rows of the matches.
use Rattle.std.proofs.Common.{◌≡◌, ◌≢◌, ◌⊎◌, inl, inr, ◌∙◌, ℕ, List, Option, Some, None, Result, Ok, option_map, refl, sym, ap, ap₂, bytes_eq}
use Rattle.std.specs.Prelude.{find}
use Rattle.std.specs.Prelude.{IfSome}
use Rattle.std.specs.Str.Parse.{ParsesUnsigned}
use Rattle.clap.specs.Matches.{ReadsOne}
use Rattle.std.specs.Prelude.{Box}
use Rattle.std.specs.Box.{box_value}
use Rattle.clap.specs.Matches.{subcommand_name_of}
use Rattle.clap.specs.Words.{Row, Text, all_of, matched_of, one_text, raw_values, rows_of, subcommand_rows, subcommand_rows_of}
use Rattle.clap.specs.declared.parser.matches.ArgMatches.{ArgMatches}
use Rattle.clap.specs.declared.parser.matches.ArgMatches.TheViews.{out-ArgMatches, out-SubCommand}
use Rattle.clap.specs.declared.parser.matches.SubCommand.{SubCommand}
use Rattle.clap.specs.declared.parser.matches.Found.{Found}
use Rattle.clap.proofs.WalkLemmas.{find_row, one_text-rows}
use Rattle.clap.specs.Facts.{Entry}
use Rattle.clap.specs.Walk.{row_of}
use Rattle.clap.specs.Kinds.{Kinds, HasKind, IsAmong}
use Rattle.clap.specs.Values.{kind_of}
use Rattle.clap.specs.declared.error.Error.{Error}
use Rattle.clap.specs.declared.error.kind.ErrorKind.TheVariants as kind
use Rattle.clap.specs.declared.error.kind.ErrorKind.{ErrorKind}
use Rattle.book_desk_words.specs.CommandLine.{HasNumber, IsAskedBy, IsRefused}
use Rattle.book_desk_words.specs.declared.commands.Command.{Command}
use Rattle.book_desk_words.specs.declared.commands.WordsFault.{WordsFault}
use Rattle.book_desk_words.specs.declared.commands.WordsFault.TheVariants as faults

-- the texts of an id stand in its row
pub raw_values-rows : (f : Found) (id : Text) → option_map raw_values (matched_of f id) ≡ all_of id (rows_of f)
raw_values-rows f id = go (find (λ e. bytes_eq e.0.now id) f.entries.items) ∙ ap (option_map (λ (r : Row). r.values)) (sym (find_row f.entries.items id))
  where
    go : (o : Option Entry) → option_map raw_values (option_map (λ e. e.1) o) ≡ option_map (λ (r : Row). r.values) (option_map row_of o)
    go None = refl
    go (Some e) = refl

-- the name and the rows of the one subcommand that was met
pub pair_of : {A : Type 0} (f : A → Text) (g : A → List Row) (x : Option A) (o : Option (Text × List Row))
    → option_map f x ≡ option_map (λ p. p.0) o → option_map g x ≡ option_map (λ p. p.1) o → option_map (λ a. (f a, g a)) x ≡ o
pair_of f g None None n r = refl
pair_of f g None (Some p) n r = absurd (cc (n))
pair_of f g (Some a) None n r = absurd (cc (n))
pair_of f g (Some a) (Some p) n r =
    let x : f a ≡ p.0 = cc (n) in
    let y : g a ≡ p.1 = cc (r) in
    ap₂ (λ s t. Some (s, t)) x y

pub number_read : (E : Type 0) (G : Text → Result ℕ E → Type 0) (f : Found) (id : Text) (r : Option ℕ)
    → (one_text f id ≡ None → r ≡ None) → ((t : Text) → one_text f id ≡ Some t → ReadsOne G t r)
    → ((t : Text) (x : Result ℕ E) → G t x → ParsesUnsigned {E = E} 16 10 t x) → IfSome r (λ n. HasNumber (rows_of f) id n)
number_read E G f id None none value only = tt
number_read E G f id (Some n) none value only =
    elim (one_text f id) as (λ o. one_text f id ≡ o → HasNumber (rows_of f) id n) [
      | None ↦ λ e. let bad = none e in absurd (cc (bad))
      | Some t ↦ λ e. let g = only t (Ok n) (value t e) in (t, sym (one_text-rows f id) ∙ e, g.0.0, sym g.1)
    ] refl

named_in : {Z : Type 0} (o : Option (Box SubCommand Z))
    → option_map (λ b. (out-SubCommand (box_value b)).name.now) o ≡ option_map (λ (p : Text × List Row). p.0) (subcommand_rows {Z = Z} o)
named_in None = refl
named_in (Some b) = refl

pub named : (m : ArgMatches) → subcommand_name_of m ≡ option_map (λ (p : Text × List Row). p.0) (subcommand_rows_of m)
named m = named_in (out-ArgMatches m).subcommand

-- an error that asks for help or the version is of the kinds that the words may have
pub asks_for_help : (kinds : Kinds) (e : Error) → HasKind kinds e → (command : Command) → IsAskedBy (kind_of e) command
    → (k : ErrorKind) × IsAmong k kinds × IsAskedBy k command
asks_for_help kinds e (inl memory) command (inl help) = (let h = help.2 in absurd (cc (memory, h)))
asks_for_help kinds e (inl memory) command (inr version) = (let h = version.2 in absurd (cc (memory, h)))
asks_for_help kinds e (inr among) command asked = (kind_of e, among, asked)

-- an error that does not is of another of these kinds
pub refuses : (found : Option (Text × List Row)) (kinds : Kinds) (e : Error) → HasKind kinds e → (fault : WordsFault)
    → (fault ≡ faults.Memory) ⊎ (kind_of e ≢ kind.OutOfMemory) × (kind_of e ≢ kind.DisplayHelp) × (kind_of e ≢ kind.DisplayVersion)
    → IsRefused found kinds fault
refuses found kinds e has (faults.Usage text) (inl memory) = absurd (cc (memory))
refuses found kinds e (inl full) (faults.Usage text) (inr (no_memory, help, version)) = absurd (no_memory full)
refuses found kinds e (inr among) (faults.Usage text) (inr (no_memory, help, version)) = inl (kind_of e, among, help, version)
refuses found kinds e has faults.Memory other = tt
