-- What a server tells whoever watches it, in the text format of Prometheus (version 0.0.4): for each metric a line of help, one of its
-- type, and its samples (own profile).
use Rattle.std.specs.Prelude.{ℕ, ◌==◌, if◌then◌else◌, List, [], ◌∷◌, ◌++◌, codes, decimal, Option, Some, None}
use Rattle.std.specs.List.{concat, flat_map}
use Rattle.book_rights.specs.Privileges.{name_of}
use Rattle.book_rights.specs.declared.methods.Method.{Method}
use Rattle.book_rights.specs.declared.methods.Method.TheVariants as method
use Rattle.book_rights.specs.declared.privileges.Leaf.TheVariants as leaf
use Rattle.book_rights.specs.declared.privileges.Privilege.{Privilege}
use Rattle.book_rights.specs.declared.privileges.Privilege.TheVariants as privilege
use Rattle.book_log_lines.specs.Words.{method_name}
use Rattle.book_desk_metrics.specs.Counting.{denials_of, replies_to}
use Rattle.book_desk_metrics.specs.declared.counts.Counts.{Counts}
use Rattle.book_desk_metrics.specs.declared.exposition.Gauges.{Gauges}
use Rattle.book_desk_metrics.specs.declared.exposition.Held.{Held}
use Rattle.book_desk_metrics.specs.declared.times.Times.{Times}

-- what a metric is, and of which type
unfoldable pub heading : List ℕ → List ℕ → List ℕ → List ℕ
heading name kind help =
    concat (codes "# HELP " ∷ name ∷ codes " " ∷ help ∷ codes "\n# TYPE " ∷ name ∷ codes " " ∷ kind ∷ codes "\n" ∷ [])

-- a number, which ends a line
unfoldable pub value_text : ℕ → List ℕ
value_text n = concat (codes " " ∷ decimal n ∷ codes "\n" ∷ [])

-- a metric without labels
unfoldable pub single : List ℕ → List ℕ → List ℕ → ℕ → List ℕ
single name kind help n = heading name kind help ++ (concat (name ∷ []) ++ value_text n)

abbrev pub method_label : Option Method → List ℕ
method_label (Some m) = method_name m
method_label None = codes "none"

abbrev pub status_label : Option ℕ → List ℕ
status_label (Some s) = decimal s
status_label None = codes "other"

unfoldable pub sample_of_replies : List ℕ → List ℕ → ℕ → List ℕ
sample_of_replies method_text status n =
    concat (codes "book_desk_requests_total{method=\"" ∷ method_text ∷ codes "\",status=\"" ∷ status ∷ codes "\"}" ∷ []) ++ value_text n

-- how many replies to a method had a status, where there was one
abbrev pub replies_line : Counts → Option Method → Option ℕ → List ℕ
replies_line c m s = if replies_to c m s == 0 then [] else sample_of_replies (method_label m) (status_label s) (replies_to c m s)

-- the statuses in order, and then all others
unfoldable pub columns : List (Option ℕ)
columns =
    Some 200 ∷ Some 201 ∷ Some 204 ∷ Some 207 ∷ Some 400 ∷ Some 403 ∷ Some 404 ∷ Some 405 ∷ Some 409 ∷ Some 412 ∷ Some 413 ∷ Some 415
    ∷ Some 431 ∷ Some 501 ∷ Some 503 ∷ Some 507 ∷ None ∷ []

-- the methods in order, and then no method
unfoldable pub rows : List (Option Method)
rows =
    Some method.Get ∷ Some method.Head ∷ Some method.Options ∷ Some method.Put ∷ Some method.Propfind ∷ Some method.Proppatch
    ∷ Some method.Acl ∷ Some method.Copy ∷ Some method.Move ∷ Some method.Delete ∷ Some method.Mkcol ∷ Some method.Report ∷ None ∷ []

abbrev pub replies_lines : Counts → Option Method → List ℕ
replies_lines c m = flat_map (replies_line c m) columns

abbrev pub replies_text : Counts → List ℕ
replies_text c =
    heading (codes "book_desk_requests_total") (codes "counter") (codes "Replies, by the method of the request and the status.")
    ++ flat_map (replies_lines c) rows

-- each privilege that a denial may name
unfoldable pub deniable : List Privilege
deniable =
    privilege.One leaf.ReadTexts ∷ privilege.One leaf.WriteContent ∷ privilege.One leaf.WriteProperties ∷ privilege.One leaf.Bind
    ∷ privilege.One leaf.Unbind ∷ privilege.One leaf.ReadAcl ∷ privilege.One leaf.WriteAcl
    ∷ privilege.One leaf.ReadCurrentUserPrivilegeSet ∷ privilege.One leaf.ReadNames ∷ privilege.Read ∷ privilege.Write ∷ privilege.All
    ∷ []

unfoldable pub denials_line : Counts → Privilege → List ℕ
denials_line c p = concat (codes "book_desk_denials_total{privilege=\"" ∷ name_of p ∷ codes "\"}" ∷ []) ++ value_text (denials_of c p)

abbrev pub denials_text : Counts → List ℕ
denials_text c =
    heading (codes "book_desk_denials_total") (codes "counter") (codes "Denials, by the privilege that was missing.")
    ++ flat_map (denials_line c) deniable

unfoldable pub bucket : List ℕ → ℕ → List ℕ
bucket bound n = concat (codes "book_desk_request_seconds_bucket{le=\"" ∷ bound ∷ codes "\"}" ∷ []) ++ value_text n

-- each bucket has those of the buckets before it
abbrev pub short_buckets : Times → List ℕ
short_buckets t = bucket (codes "0.001") t.within_1_ms ++ (bucket (codes "0.005") t.within_5_ms ++ bucket (codes "0.02") t.within_20_ms)

abbrev pub long_buckets : Times → List ℕ
long_buckets t =
    bucket (codes "0.1") t.within_100_ms ++ (bucket (codes "0.5") t.within_500_ms ++ (bucket (codes "2") t.within_2_s ++ bucket (codes "+Inf") t.all))

-- the sum in seconds, as so many times 10^-6
unfoldable pub totals : Times → List ℕ
totals t =
    concat (codes "book_desk_request_seconds_sum " ∷ decimal t.micros ∷ codes "e-6\nbook_desk_request_seconds_count" ∷ []) ++ value_text t.all

abbrev pub seconds_text : Times → List ℕ
seconds_text t =
    heading (codes "book_desk_request_seconds") (codes "histogram") (codes "How long requests were served.")
    ++ (short_buckets t ++ (long_buckets t ++ totals t))

abbrev pub connections_text : Gauges → List ℕ
connections_text g =
    single (codes "book_desk_connections_total") (codes "counter") (codes "Connections that came.") g.came
    ++ (single (codes "book_desk_connections_open") (codes "gauge") (codes "Connections that are there.") g.open
    ++ (single (codes "book_desk_connection_faults_total") (codes "counter") (codes "Connections that had a fault.") g.faults
    ++ single (codes "book_desk_start_time_seconds") (codes "gauge") (codes "When the server began, in seconds since 1970.") g.since))

-- what was taken from all connections, and sent to them
abbrev pub bytes_text : Gauges → List ℕ
bytes_text g =
    single (codes "book_desk_received_bytes_total") (codes "counter") (codes "Bytes of requests that were taken from connections.") g.received
    ++ single (codes "book_desk_sent_bytes_total") (codes "counter") (codes "Bytes of replies that were sent to connections.") g.sent

-- what is held, where the store shows it
abbrev pub held_text : Option Held → List ℕ
held_text None = []
held_text (Some h) =
    single (codes "book_desk_epoch") (codes "gauge") (codes "The epoch.") h.epoch
    ++ (single (codes "book_desk_cards") (codes "gauge") (codes "Cards.") h.cards
    ++ (single (codes "book_desk_books") (codes "gauge") (codes "Books.") h.books
    ++ single (codes "book_desk_persons") (codes "gauge") (codes "Persons.") h.persons))

-- what is so now
abbrev pub gauges_text : Gauges → List ℕ
gauges_text g = connections_text g ++ (bytes_text g ++ held_text g.held)

abbrev pub metrics_text : Counts → Times → Gauges → List ℕ
metrics_text c t g = replies_text c ++ (denials_text c ++ (seconds_text t ++ gauges_text g))
