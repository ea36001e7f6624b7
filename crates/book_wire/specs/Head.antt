-- What the head of a request asks for (RFC 9112, sections 2 and 6): the fields that are read, and no others.
use Rattle.std.specs.Prelude.{ℕ, ◌+◌, ◌-◌, ◌*◌, Bool, ◌&&◌, ◌||◌, if◌then◌else◌, ◌==◌, nat_lt, nat_le, List, [], ◌∷◌, map, length, codes, Option, Some, None, Result, Ok, Err}
use Rattle.std.specs.List.{list_all, list_any}
use Rattle.std.specs.Char.{is_ascii_digit}
use Rattle.std.specs.Str.{bytes_eq}
use Rattle.httparse.specs.Grammar.{RequestHead}
use Rattle.httparse.specs.Spans.{name_and_value}
use Rattle.book_limits.specs.declared.TheConstants.{MAX_BODY}
use Rattle.book_rights.specs.declared.methods.Method.{Method}
use Rattle.book_machine.specs.declared.messages.Flag.{Flag}
use Rattle.book_machine.specs.declared.messages.Flag.TheVariants as flag
use Rattle.book_machine.specs.declared.messages.Depth.{Depth}
use Rattle.book_machine.specs.declared.messages.Depth.TheVariants as depth
use Rattle.book_wire_targets.specs.Targets.{method_named}
use Rattle.book_wire.specs.Members.{same_name, has_close}
use Rattle.book_wire.specs.declared.head.WireRefusal.{WireRefusal}
use Rattle.book_wire.specs.declared.head.WireRefusal.TheVariants.{BadHead, BodyTooLarge, NotImplemented}

-- names and values
abbrev pub Fields : Type 0
Fields = List (List ℕ × List ℕ)

-- the values of the fields of that name, in order
abbrev pub values_of : List ℕ → Fields → List (List ℕ)
values_of name [] = []
values_of name (f ∷ fs) = if same_name f.0 name then f.1 ∷ values_of name fs else values_of name fs

-- a field that may come once
abbrev pub lone : List (List ℕ) → Result (Option (List ℕ)) WireRefusal
lone [] = Ok None
lone (v ∷ []) = Ok (Some v)
lone (v ∷ w ∷ vs) = Err BadHead

-- the number that decimal digits write behind those of n
abbrev pub number_after : ℕ → List ℕ → ℕ
number_after n [] = n
number_after n (c ∷ cs) = number_after (10 * n + (c - 48)) cs

-- 1 to 10 decimal digits
abbrev pub is_length : List ℕ → Bool
is_length v = nat_lt 0 (length v) && (nat_le (length v) 10 && list_all is_ascii_digit v)

abbrev pub length_of : Option (List ℕ) → Result ℕ WireRefusal
length_of None = Ok 0
length_of (Some v) = if is_length v then Ok (number_after 0 v) else Err BadHead

-- a method that is known, and no transfer coding
abbrev pub implemented : Option (List ℕ) → Option Method → Result Method WireRefusal
implemented None (Some m) = Ok m
implemented None None = Err NotImplemented
implemented (Some coding) m = Err NotImplemented

abbrev pub within : ℕ → Result ℕ WireRefusal
within n = if nat_le n MAX_BODY then Ok n else Err BodyTooLarge

-- the connection closes after the reply: in HTTP/1.0, and where a field Connection has the member `close` (RFC 9110,
-- section 7.6.1)
abbrev pub closes : ℕ → Fields → Bool
closes minor fields = minor == 0 || list_any has_close (values_of (codes "connection") fields)

-- the field Overwrite (RFC 4918, section 10.6)
abbrev pub overwrite_of : Option (List ℕ) → Flag
overwrite_of None = flag.Yes
overwrite_of (Some v) = if bytes_eq v (codes "T") then flag.Yes else (if bytes_eq v (codes "F") then flag.No else flag.Unread)

-- the field Depth (RFC 4918, section 10.2; own profile)
abbrev pub depth_of : Option (List ℕ) → Depth
depth_of None = depth.Zero
depth_of (Some v) = if bytes_eq v (codes "0") then depth.Zero else (if bytes_eq v (codes "1") then depth.One else depth.Unread)

-- what a head asks for
pub record Asked : Type 0 where
  pub caller : Option (List ℕ)
  pub method : Method
  pub target : List ℕ
  pub destination : Option (List ℕ)
  pub overwrite : Flag
  pub depth : Depth
  pub length : ℕ
  pub closes : Bool

infixl 10 ◌>>=◌
abbrev pub ◌>>=◌ : {A B : Type 0} → Result A WireRefusal → (A → Result B WireRefusal) → Result B WireRefusal
(Ok x) >>= f = f x
(Err e) >>= f = Err e

-- bad fields come first, then what is not implemented, then a body that is too long
unfoldable pub asked_by_head : List ℕ → List ℕ → ℕ → Fields → Result Asked WireRefusal
asked_by_head method target minor fields = do
  caller ← lone (values_of (codes "x-office-caller") fields)
  destination ← lone (values_of (codes "destination") fields)
  overwrite ← lone (values_of (codes "overwrite") fields)
  depth ← lone (values_of (codes "depth") fields)
  coding ← lone (values_of (codes "transfer-encoding") fields)
  text ← lone (values_of (codes "content-length") fields)
  size ← length_of text
  known ← implemented coding (method_named method)
  n ← within size
  Ok (record {
    caller = caller;
    method = known;
    target = target;
    destination = destination;
    overwrite = overwrite_of overwrite;
    depth = depth_of depth;
    length = n;
    closes = closes minor fields;
  })

abbrev pub asked_of_head : RequestHead → Result Asked WireRefusal
asked_of_head h = asked_by_head h.method h.target h.minor (map name_and_value h.fields)

-- the head's method is HEAD, so that no body is sent
abbrev pub is_bare_head : List ℕ → Bool
is_bare_head method = bytes_eq method (codes "HEAD")
