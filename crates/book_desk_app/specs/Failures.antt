-- What is told where a command was not done, and the status that ends the program (own profile).
use Rattle.std.specs.Prelude.{◌≡◌, ℕ, List, ◌++◌, codes, Option}
use Rattle.std.specs.Io.KnownBytes.{Appends}
use Rattle.book_machine.specs.declared.adoptions.AdoptFault.{AdoptFault}
use Rattle.book_machine.specs.declared.adoptions.AdoptFault.TheVariants.{Full, Unavailable}
use Rattle.book_office.specs.declared.keepers.StoreFault.{StoreFault}
use Rattle.book_office.specs.declared.keepers.StoreFault.TheVariants as keeper_faults
use Rattle.book_policy.specs.FaultNames.{fault_name}
use Rattle.book_policy.specs.declared.faults.PolicyFault.{PolicyFault}
use Rattle.book_policy.specs.declared.faults.PolicyFault.TheVariants as policy_faults
use Rattle.book_wire_serving.specs.declared.faults.StreamFault.TheVariants.{Log as LogFault}
use Rattle.book_desk_app.specs.ServingFailures.{adoption_text, stream_text}
use Rattle.book_desk_app.specs.TextFailures.{input_text, input_status}
use Rattle.book_desk_app.specs.declared.failures.Failure.{Failure}
use Rattle.book_desk_app.specs.declared.failures.Failure.TheVariants.{Input, Output, Init, Listen, Policy, Store, Adoption, Stream}
use Rattle.book_desk_app.specs.declared.failures.InitFault.{InitFault}
use Rattle.book_desk_app.specs.declared.failures.InitFault.TheVariants as inits
use Rattle.book_desk_app.specs.declared.failures.StoreFailure.{StoreFailure}
use Rattle.book_desk_app.specs.declared.failures.StoreFailure.TheVariants as stores

-- the fault of a keeper as that of its store
abbrev pub store_failure : StoreFault → StoreFailure
store_failure keeper_faults.Memory = stores.Memory
store_failure keeper_faults.Store = stores.Store

abbrev pub store_text : StoreFailure → List ℕ
store_text stores.OtherVersion = codes "store: other-version"
store_text stores.NoStore = codes "store: no-store"
store_text stores.Memory = codes "store: memory"
store_text stores.Store = codes "store: store"

abbrev pub init_text : InitFault → List ℕ
init_text inits.Exists = codes "init: exists"
init_text inits.Write = codes "init: write"

abbrev pub failure_text : Failure → List ℕ
failure_text (Input fault) = input_text fault
failure_text Output = codes "output: write"
failure_text (Init fault) = init_text fault
failure_text Listen = codes "listen: failed"
failure_text (Policy fault) = codes "policy: " ++ fault_name fault
failure_text (Store failure) = store_text failure
failure_text (Adoption failure) = adoption_text failure.fault
failure_text (Stream failure) = stream_text failure.fault

-- what is told where a line of the log could not be written
abbrev pub log_failure : Failure
log_failure = Stream (record { fault = LogFault })

-- 1 is refused input; 3 is memory, the store, or a failed read or write
abbrev pub policy_status : PolicyFault → ℕ
policy_status policy_faults.NotToml = 1
policy_status policy_faults.OtherVersion = 1
policy_status policy_faults.BadKey = 1
policy_status policy_faults.BadName = 1
policy_status policy_faults.NameTwice = 1
policy_status policy_faults.UnknownPrincipal = 1
policy_status policy_faults.UnknownResource = 1
policy_status policy_faults.UnknownPrivilege = 1
policy_status policy_faults.TooMany = 1
policy_status policy_faults.Memory = 3

abbrev pub adopt_status : AdoptFault → ℕ
adopt_status Full = 1
adopt_status Unavailable = 3

abbrev pub init_status : InitFault → ℕ
init_status inits.Exists = 1
init_status inits.Write = 3

abbrev pub failure_status : Failure → ℕ
failure_status (Input fault) = input_status fault
failure_status Output = 3
failure_status (Init fault) = init_status fault
failure_status Listen = 3
failure_status (Policy fault) = policy_status fault
failure_status (Store failure) = 3
failure_status (Adoption failure) = adopt_status failure.fault
failure_status (Stream failure) = 3

-- a line that is told: the writer got a beginning of it, which is all of it but where a write failed
abbrev pub IsTold : List ℕ → Option (List ℕ) → Option (List ℕ) → Type 0
IsTold text held holds = (front : List ℕ) × (left : List ℕ) × (text ++ codes "\n" ≡ front ++ left) × Appends held holds front
