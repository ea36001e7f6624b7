-- What `serve` does and tells where it serves many connections at once (own profile).
use Rattle.std.specs.Prelude.{◌≡◌, ◌⊎◌, ◌-◌, ℕ, zero, suc, Bool, List, [], ◌∷◌, ◌++◌, codes, Option, Result, Ok, Err}
use Rattle.book_desk_sockets.specs.Places.{SaysWhere}
use Rattle.book_wire_serving.specs.Serving.{Serving}
use Rattle.book_wire_serving.specs.declared.faults.StreamFault.{StreamFault}
use Rattle.book_desk_loop.specs.Serving.{ToldFault, AreServedAtOnce}
use Rattle.book_desk_loop.specs.declared.limits.Limits.{Limits}
use Rattle.book_desk_loop.specs.declared.limits.Stop.{Stop}
use Rattle.book_desk_loop.specs.declared.limits.Stop.TheVariants.{Failed as StopFailed, Log as StopLog, Store as StopStore}
use Rattle.book_desk_app.specs.Failures.{failure_text, log_failure}
use Rattle.book_desk_app.specs.ServingFailures.{stream_text}
use Rattle.book_desk_serving.specs.Streams.{SaysNothing}
use Rattle.book_desk_app.specs.Telling.{Tells}
use Rattle.book_desk_app.specs.declared.failures.Failure.{Failure}
use Rattle.book_desk_app.specs.declared.failures.Failure.TheVariants.{Listen, Store}
use Rattle.book_desk_app.specs.declared.failures.StoreFailure.TheVariants as stores

-- what the last line on a client says
abbrev pub no_more_text : List ℕ
no_more_text = codes "stream: no more are told"

-- the line on the fault of a client, where so many lines on clients are left: the last of them says that no more are told
abbrev pub line_of_client : ℕ → StreamFault → List ℕ
line_of_client zero fault = []
line_of_client (suc zero) fault = no_more_text ++ codes "\n"
line_of_client (suc (suc more)) fault = stream_text fault ++ codes "\n"

-- the lines on the faults of clients, in turn
abbrev pub lines_of_clients : ℕ → List ToldFault → List ℕ
lines_of_clients left [] = []
lines_of_clients left (told ∷ more) = line_of_client left told.fault ++ lines_of_clients (left - 1) more

-- what is told where it stops
abbrev pub stop_failure : Stop → Failure
stop_failure StopFailed = Listen
stop_failure StopStore = Store stores.Store
stop_failure StopLog = log_failure

-- the last line, where it does not end well
abbrev pub last_line : Result (Unit {0}) Stop → List ℕ
last_line (Ok done) = []
last_line (Err stop) = failure_text (stop_failure stop) ++ codes "\n"

-- the status: 0 where no connection had a fault, and it ended well
abbrev pub served_status : List ToldFault → Result (Unit {0}) Stop → ℕ
served_status [] (Ok done) = 0
served_status [] (Err stop) = 3
served_status (told ∷ more) ended = 3

module _ {S M : Type 0} (remaining contents : S → Option (List ℕ)) (serving : M → Serving) (has_port : Bool) (path : Option (List ℕ)) (limits : Limits) (first : M)
    (was_whole is_whole : Bool) (told tells : Option (List ℕ)) where
  -- Connections were served at once, from the first service to the last. What is told is the lines on the faults of clients, at most
  -- 1,000, and then what ended it.
  pub record EndsAtOnce (status : ℕ) (last : M) : Type 0 where
    pub faults : List ToldFault
    pub ended : Result (Unit {0}) Stop
    pub served : AreServedAtOnce remaining contents serving limits first faults ended last
    pub status_is : status ≡ served_status faults ended
    pub lines : Tells was_whole is_whole told tells (lines_of_clients 1000 faults ++ last_line ended)

  -- it could not be said where it listens, and no connection was served; or it said so, and connections were served at once
  abbrev pub ServesAtOnce : Option (List ℕ) → Option (List ℕ) → ℕ → M → Type 0
  ServesAtOnce held holds status last =
      (SaysNothing remaining contents serving has_port path was_whole is_whole told tells status × (last ≡ first))
      ⊎ (SaysWhere has_port path held holds × EndsAtOnce status last)
