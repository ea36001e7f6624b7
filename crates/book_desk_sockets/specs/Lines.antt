-- A port and a Unix socket as one listener, and the streams of their connections (own profile).
use Rattle.std.specs.Prelude.{◌⊎◌, Option, Some, None}
use Rattle.book_desk_sockets.specs.declared.lines.Line.{Line}
use Rattle.book_desk_sockets.specs.declared.lines.Line.TheVariants.{Port, Local}

-- what is known of a connection's stream is what is known of its own
abbrev pub of_line : {P U A : Type 0} → (P → A) → (U → A) → Line P U → A
of_line at_port at_local (Port stream) = at_port stream
of_line at_port at_local (Local stream) = at_local stream

-- it is there, and this holds of it
abbrev pub IsThereAnd : {D : Type 0} → (D → Type 0) → Option D → Type 0
IsThereAnd Holds (Some door) = Holds door
IsThereAnd Holds None = ⊥

-- it is there, and gave this stream
abbrev pub IsGivenBy : {D S : Type 0} → (D → S → Type 0) → Option D → S → Type 0
IsGivenBy Gives door stream = IsThereAnd (λ d. Gives d stream) door

-- this holds of one of the two that is there
abbrev pub IsOne : {P U : Type 0} → (P → Type 0) → (U → Type 0) → Option P → Option U → Type 0
IsOne AtPort AtLocal port local = IsThereAnd AtPort port ⊎ IsThereAnd AtLocal local

-- the port gave the connection, or the socket did
abbrev pub IsGiven : {P U S T : Type 0} → (P → S → Type 0) → (U → T → Type 0) → Option P → Option U → Line S T → Type 0
IsGiven ByPort ByLocal port local (Port stream) = IsGivenBy ByPort port stream
IsGiven ByPort ByLocal port local (Local stream) = IsGivenBy ByLocal local stream
