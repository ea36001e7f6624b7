-- Where is listened, as it is told (own profile).
use Rattle.std.specs.Prelude.{◌≡◌, ℕ, Bool, List, [], ◌++◌, codes, is_some, Option, None, Some}
use Rattle.std.specs.Io.KnownBytes.{Appends}
use Rattle.std.specs.Net.Text.{socket_text}
use Rattle.std.specs.declared.net.socket_addr.SocketAddr.{SocketAddr}

-- what is written before the first connection: a line for the port, if there is one, and then one for the socket, if there is one
abbrev pub port_line : Option SocketAddr → List ℕ
port_line (Some address) = codes "listening on " ++ (socket_text address ++ codes "\n")
port_line None = []

abbrev pub socket_line : Option (List ℕ) → List ℕ
socket_line (Some path) = codes "listening on unix:" ++ (path ++ codes "\n")
socket_line None = []

-- it was said so of what listens at a port or not, and at this path or at none
abbrev pub SaysWhere : Bool → Option (List ℕ) → Option (List ℕ) → Option (List ℕ) → Type 0
SaysWhere has_port path held holds =
    (address : Option SocketAddr) × (is_some address ≡ has_port) × Appends held holds (port_line address ++ socket_line path)
