-- The loop: connections and their sockets, each at the place of its connection.
use Rattle.std.specs.List.{AllByRecursion}
use Rattle.std.specs.Prelude.{◌≡◌, ◌≢◌, ◌⊎◌, ℕ, ◌+◌, ◌<◌, ◌≤◌, Bool, true, false, is_some, ◌==◌, if◌then◌else◌, List, [], ◌∷◌, ◌++◌, get_or, map, Option, Some, None, Result, Err, OnOk}
use Rattle.book_wire.specs.Connection.{View, fresh}
use Rattle.book_wire_serving.specs.Serving.{Serving}
use Rattle.book_wire.specs.Stream.{Exchange, IsPartial, Waits}
use Rattle.book_wire_serving.specs.declared.faults.StreamFault.{StreamFault}
use Rattle.book_wire_steps.specs.Steps.{Step, ServesInSteps}
use Rattle.book_wire_steps.specs.Steps.Step.{serves, tries, adopts}
use Rattle.book_desk_loop.specs.Closing.{DropsSome}
use Rattle.book_desk_connections.specs.ManyConnections.{History, Entry, AreServed, IsBehind, IsThere, Holds, AllStay, OthersStay, answered_in, own}
use Rattle.book_desk_connections.specs.Rounds.{WereSent}
use Rattle.book_desk_connections.specs.Streams.{IsMoved, WasAtEnd, IsIdleAt, IsAnsweredAt, IsWithinAt, TakesATurn}
use Rattle.book_desk_connections.specs.declared.connections.Accepted.{Accepted}
use Rattle.book_desk_connections.specs.declared.connections.Connections.{Connections}
use Rattle.book_desk_loop.specs.declared.limits.Limits.{Limits}
use Rattle.book_desk_loop.specs.declared.looping.Server.{Server}
use Rattle.book_desk_loop.specs.declared.limits.Stop.{Stop}
use Rattle.book_desk_loop.specs.declared.limits.Stop.TheVariants.{Log as StopsForLog, Store as StopsForStore}
use Rattle.book_desk_loop.specs.declared.limits.Ended.{Ended}
use Rattle.book_desk_loop.specs.declared.limits.Ended.TheVariants.{Done, LogFailed, StoreFailed}
use Rattle.book_desk_loop.specs.declared.sockets.Socket.{Socket}

-- a stream that is served; whether its input is at its end, and whether its last reply is sent
pub record Line (S : Type 0) : Type 0 where
  pub stream : S
  pub at_end : Bool
  pub lingers : Bool

abbrev pub line_of : {S : Type 0} → Option (Socket S) → Option (Line S)
line_of None = None
line_of (Some s) = Some (record { stream = s.stream; at_end = s.at_end; lingers = is_some s.dropped })

abbrev pub line_at : {S : Type 0} → List (Option (Socket S)) → ℕ → Option (Line S)
line_at {S} sockets i = line_of (get_or sockets i None)

-- each stream is at its place, as it was
pub record LinesStay {S : Type 0} (old new : List (Option (Socket S))) : Type 0 where
  pub stay : (j : ℕ) → line_at new j ≡ line_at old j

pub record OtherLinesStay {S : Type 0} (i : ℕ) (old new : List (Option (Socket S))) : Type 0 where
  pub stay : (j : ℕ) → j ≢ i → line_at new j ≡ line_at old j

-- a fault that was told, and the number of its connection; none where none could begin
pub record ToldFault : Type 0 where
  pub number : Option ℕ
  pub fault : StreamFault

-- faults, told in turn
abbrev pub AreTold : {F : Type 0} → (F → StreamFault → F → Type 0) → F → List ToldFault → F → Type 0
AreTold tells old [] new = new ≡ old
AreTold {F} tells old (failed ∷ more) new = (between : F) × tells old failed.fault between × AreTold tells between more new

abbrev pub is_number : ℕ → Option ℕ → Bool
is_number k None = false
is_number k (Some n) = k == n

-- the faults that were told of the connection of that number
abbrev pub told_of : ℕ → List ToldFault → List StreamFault
told_of k [] = []
told_of k (failed ∷ more) = if is_number k failed.number then failed.fault ∷ told_of k more else told_of k more

abbrev pub count_if_none : Option ℕ → ℕ
count_if_none None = 1
count_if_none (Some n) = 0

-- how many could not begin
abbrev pub count_unopened : List ToldFault → ℕ
count_unopened [] = 0
count_unopened (failed ∷ more) = count_if_none failed.number + count_unopened more

-- so many connections came and so many are to come; where there is no end, no number is told
abbrev pub AreCounted : Option ℕ → Option ℕ → ℕ → Type 0
AreCounted None left came = left ≡ None
AreCounted (Some total) None came = ⊥
AreCounted (Some total) (Some left) came = total ≡ left + came

-- the control may end it before all came
abbrev pub IsCutShort : Limits → ℕ → Type 0
IsCutShort limits came = (limits.is_administered ≡ true) × ((more : Option ℕ) × AreCounted limits.total more came)

-- so many came, and so many are to come; after a wish of the control none is
abbrev pub HaveCome : Limits → Option ℕ → ℕ → Type 0
HaveCome limits left came = AreCounted limits.total left came ⊎ ((left ≡ Some 0) × IsCutShort limits came)

-- as many came as were to come, or it was cut short
abbrev pub HaveAllCome : Limits → ℕ → Type 0
HaveAllCome limits came = (limits.total ≡ Some came) ⊎ IsCutShort limits came

-- one fewer are to come
abbrev pub IsOneFewer : Option ℕ → Option ℕ → Type 0
IsOneFewer None new = new ≡ None
IsOneFewer (Some old) None = ⊥
IsOneFewer (Some old) (Some new) = old ≡ new + 1

abbrev pub count_held : {S : Type 0} → Option S → ℕ
count_held None = 0
count_held (Some stream) = 1

-- A connection may give its place to one that waits: its last reply is sent, or nothing of it is unread or unsent, or its request is
-- not whole.
abbrev pub MayGiveWayAt : {S : Type 0} → List (Option Accepted) → List (Option (Socket S)) → ℕ → Type 0
MayGiveWayAt {S} places sockets place =
    (line : Line S) × (line_at sockets place ≡ Some line)
    × ((line.lingers ≡ true) ⊎ ((line.lingers ≡ false) × IsIdleAt places place) ⊎ ((line.lingers ≡ false) × IsWithinAt places place))

-- what was tried in a round that was not kept was sent by connections, behind what was answered of them by then
abbrev pub IsOfConnections : (ℕ → History) → List Entry → Step → Type 0
IsOfConnections histories log (serves answered) = Unit {0}
IsOfConnections histories log (tries answered) = WereSent histories log answered
IsOfConnections histories log (adopts tables outcome) = Unit {0}

-- over streams with the bytes that they still give, and those that they were given
module _ {S : Type 0} (remaining contents : S → Option (List ℕ)) where
  -- The stream of a connection that is there. Its moves since it was accepted are the connection's history. Once the last reply
  -- is sent, what still comes is dropped.
  pub record IsCarriedBy (history : History) (v : View) (line : Line S) : Type 0 where
    pub accepted : S
    pub replied : S
    pub moved : IsMoved remaining contents accepted history.received history.sent replied
    pub served : line.lingers ≡ false → line.stream ≡ replied
    pub lingers : line.lingers ≡ true → (v.closing ≡ true) × (v.unsent ≡ []) × DropsSome (remaining replied) (remaining line.stream)
    pub at_end : line.lingers ≡ false → line.at_end ≡ true → WasAtEnd remaining contents line.stream

  -- its last reply is sent, and what came then was dropped
  abbrev pub HasClosed : View → S → S → Type 0
  HasClosed v replied left = (v.closing ≡ true) × (v.unsent ≡ []) × DropsSome (remaining replied) (remaining left)

  -- nothing of it is unread or unsent
  abbrev pub HasRested : View → S → S → Type 0
  HasRested v replied left = (v.unread ≡ []) × (v.unsent ≡ []) × (left ≡ replied)

  -- its input is at its end, each whole request is answered, and all is sent
  abbrev pub HasEnded : View → S → S → Type 0
  HasEnded v replied left =
      (v.closing ≡ false) × Waits v.unread × (v.unsent ≡ []) × WasAtEnd remaining contents left × (left ≡ replied)

  -- its time is up, where there is such a limit
  abbrev pub IsLate : Limits → S → S → Type 0
  IsLate limits replied left = (limits.idle ≢ None) × (left ≡ replied)

  -- a part of a request is unread, and each before it is answered
  abbrev pub IsIncomplete : View → S → S → Type 0
  IsIncomplete v replied left = (v.closing ≡ false) × IsPartial v.unread × (left ≡ replied)

  abbrev pub MayGo : Limits → View → S → S → Type 0
  MayGo limits v replied left =
      HasClosed v replied left ⊎ HasRested v replied left ⊎ HasEnded v replied left ⊎ IsLate limits replied left ⊎ IsIncomplete v replied left

  -- Why a connection was let go of which these faults were told: as it was, it might go, and none was told; or it had one
  -- fault, and that was told.
  pub record WasLetGo (limits : Limits) (faults : List StreamFault) (es : List Exchange) (history : History) : Type 0 where
    pub accepted : S
    pub replied : S
    pub left : S
    pub moved : IsMoved remaining contents accepted history.received history.sent replied
    pub why : ((faults ≡ []) × (v : View) × IsThere es history v × MayGo limits v replied left)
        ⊎ ((fault : StreamFault) × (faults ≡ fault ∷ []) × (left ≡ replied))

  -- the connection at the place may be let go
  abbrev pub MayGoAt : Limits → List (Option Accepted) → List (Option (Socket S)) → ℕ → Type 0
  MayGoAt limits places sockets place =
      (line : Line S) × (line_at sockets place ≡ Some line)
      × ((line.lingers ≡ true)
      ⊎ ((line.lingers ≡ false) × IsIdleAt places place)
      ⊎ ((line.lingers ≡ false) × (line.at_end ≡ true) × IsAnsweredAt places place)
      ⊎ ((line.lingers ≡ false) × (limits.idle ≢ None))
      ⊎ ((line.lingers ≡ false) × IsWithinAt places place))

  -- over services with what they stand for
  module _ {M : Type 0} (serving : M → Serving) where
    -- a line of the log could not be written
    abbrev pub HasFailedLog : M → Type 0
    HasFailedLog service = (serving service).log.failed ≡ true

    -- each line could be written
    abbrev pub HasSoundLog : M → Type 0
    HasSoundLog service = (serving service).log.failed ≡ false

    -- What was answered, the rounds that were not kept, and what the control adopted, are steps in one order; and what was tried in such a
    -- round was sent by connections.
    pub record AreInSteps (administered : Bool) (first last : M) (histories : ℕ → History) (log : List Entry) : Type 0 where
      pub in_steps : ServesInSteps serving administered first last (map answered_in log)
      pub sent : AllByRecursion (IsOfConnections histories log) in_steps.steps

    -- As many connections came as were to come, unless the control wished an end. Each that is there has its stream at its place; why each
    -- other was let go is known, unless a line of the log could not be written. The requests of all, and what the control adopted, are steps
    -- in one order since the first service.
    pub record AreKept (limits : Limits) (first : M) (failed : List ToldFault) (connections : Connections M)
        (sockets : List (Option (Socket S))) (left : Option ℕ) (held : Option S) : Type 0 where
      pub histories : ℕ → History
      pub log : List Entry
      pub served : AreServed histories log connections.opened connections.places.items
      pub in_steps : AreInSteps limits.is_administered first connections.service histories log
      pub here : (i : ℕ) (l : Accepted) → Holds connections.places.items i l
          → (line : Line S) × (line_at sockets i ≡ Some line) × IsCarriedBy (histories l.number) l.connection line
      pub sound : (i : ℕ) (l : Accepted) → Holds connections.places.items i l → told_of l.number failed ≡ []
      pub later : (k : ℕ) → connections.opened ≤ k → told_of k failed ≡ []
      pub nobody : (i : ℕ) → get_or connections.places.items i None ≡ None → line_at sockets i ≡ None
      pub gone : HasSoundLog connections.service → (k : ℕ) → k < connections.opened → ((i : ℕ) (l : Accepted) → Holds connections.places.items i l → l.number ≢ k)
          → WasLetGo limits (told_of k failed) (own k log) (histories k)
      pub came : HaveCome limits left (connections.opened + (count_unopened failed + count_held held))

    abbrev pub IsKept : Limits → M → List ToldFault → Server M S → Type 0
    IsKept limits first failed server =
        (server.limits ≡ limits) × AreKept limits first failed server.connections server.sockets.items server.left server.held

    -- no fault is told
    abbrev pub KeepsOn : Server M S → Server M S → Type 0
    KeepsOn old new = (limits : Limits) (first : M) (failed : List ToldFault) → IsKept limits first failed old → IsKept limits first failed new

    -- these faults are told
    pub record GoesOn {F : Type 0} (tells : F → StreamFault → F → Type 0) (old : Server M S) (faults : F) (new : Server M S) (faults_then : F) : Type 0 where
      pub told : List ToldFault
      pub tells_them : AreTold tells faults told faults_then
      pub keeps : (limits : Limits) (first : M) (before : List ToldFault) → IsKept limits first before old → IsKept limits first (before ++ told) new

    -- what else the server has
    pub record RestStays (old new : Server M S) : Type 0 where
      pub limits : new.limits ≡ old.limits
      pub left : new.left ≡ old.left
      pub held : new.held ≡ old.held

    -- the connection at the place and its stream are let go
    pub record LetsGo (place : ℕ) (old new : Server M S) : Type 0 where
      pub rest : RestStays old new
      pub service : new.connections.service ≡ old.connections.service
      pub opened : new.connections.opened ≡ old.connections.opened
      pub gone : get_or new.connections.places.items place None ≡ None
      pub others : OthersStay place old.connections.places.items new.connections.places.items
      pub served : (histories : ℕ → History) (log : List Entry)
          → AreServed histories log old.connections.opened old.connections.places.items
          → AreServed histories log new.connections.opened new.connections.places.items
      pub line : line_at new.sockets.items place ≡ None
      pub lines : OtherLinesStay place old.sockets.items new.sockets.items

    -- the connection at the place has its turn, if it is there
    pub record TurnsAt (place : ℕ) (old new : Server M S) (line line_then : Line S) : Type 0 where
      pub rest : RestStays old new
      pub was : line_at old.sockets.items place ≡ Some line
      pub is : line_at new.sockets.items place ≡ Some line_then
      pub lingers : line_then.lingers ≡ line.lingers
      pub lines : OtherLinesStay place old.sockets.items new.sockets.items
      pub turn : TakesATurn serving remaining contents place old.connections new.connections line.stream line_then.stream line.at_end
      pub at_end : line_then.at_end ≡ true → (line.at_end ≡ true → WasAtEnd remaining contents line.stream) → WasAtEnd remaining contents line_then.stream

    -- a connection begins with the stream
    pub record BeginsAt (place : ℕ) (stream : S) (old new : Server M S) : Type 0 where
      pub free : get_or old.connections.places.items place None ≡ None
      pub there : (l : Accepted) × Holds new.connections.places.items place l × (l.number ≡ old.connections.opened) × (l.connection ≡ fresh)
      pub opened : new.connections.opened ≡ old.connections.opened + 1
      pub others : OthersStay place old.connections.places.items new.connections.places.items
      pub line : line_at new.sockets.items place ≡ Some (record { stream = stream; at_end = false; lingers = false })
      pub lines : OtherLinesStay place old.sockets.items new.sockets.items

    -- none does: it has a number, or none
    pub record BeginsNone (old new : Server M S) : Type 0 where
      pub places : AllStay old.connections.places.items new.connections.places.items
      pub opened : (new.connections.opened ≡ old.connections.opened) ⊎ (new.connections.opened ≡ old.connections.opened + 1)
      pub lines : LinesStay old.sockets.items new.sockets.items

    pub record Begins (old new : Server M S) : Type 0 where
      pub rest : RestStays old new
      pub service : new.connections.service ≡ old.connections.service
      pub served : (histories : ℕ → History) (log : List Entry)
          → AreServed histories log old.connections.opened old.connections.places.items
          → AreServed histories log new.connections.opened new.connections.places.items

    -- each that came was let go, and it is known why
    abbrev pub AllWereLetGo : Limits → List ToldFault → (ℕ → History) → List Entry → ℕ → Type 0
    AllWereLetGo limits failed histories log opened = (k : ℕ) → k < opened → WasLetGo limits (told_of k failed) (own k log) (histories k)

    -- the store has failed since it had failed so often, and there is no end of connections
    abbrev pub StoreHasFailed : Limits → ℕ → M → Type 0
    StoreHasFailed limits failures last = (limits.total ≡ None) × ((serving last).standing.failures ≢ failures)

    -- how rounds of the loop end
    abbrev pub EndsSo : Ended → Server M S → ℕ → Type 0
    EndsSo Done server failures =
        (server.left ≡ Some 0) × (server.held ≡ None) × ((i : ℕ) → line_at server.sockets.items i ≡ None) × HasSoundLog server.connections.service
    EndsSo StoreFailed server failures = StoreHasFailed server.limits failures server.connections.service
    EndsSo LogFailed server failures = HasFailedLog server.connections.service

    -- So many connections were served, each for its own requests alone; the requests of all, and what the control adopted, are steps in
    -- one order, and one run where the server is not administered. Where it ended so, as many came as were to come, but for those that could not begin, or the control may have ended it; and each
    -- was let go. It stops for the store only where that has failed, and there is no end of connections; and for the log exactly
    -- where a line of it could not be written.
    pub record AreServedAtOnce (limits : Limits) (first : M) (failed : List ToldFault) (result : Result (Unit {0}) Stop) (last : M) : Type 0 where
      pub histories : ℕ → History
      pub log : List Entry
      pub opened : ℕ
      pub all : (k : ℕ) → IsBehind (own k log) (histories k)
      pub in_steps : AreInSteps limits.is_administered first last histories log
      pub done : OnOk result (AllWereLetGo limits failed histories log opened
          × HaveAllCome limits (opened + count_unopened failed))
      pub store : result ≡ Err StopsForStore → StoreHasFailed limits (serving first).standing.failures last
      pub for_log : result ≡ Err StopsForLog → HasFailedLog last
      pub failed_log : HasFailedLog last → result ≡ Err StopsForLog
