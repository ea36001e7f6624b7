-- The printed names of the faults of a policy's text (own profile).
use Rattle.std.specs.Prelude.{ℕ, List, codes}
use Rattle.book_policy.specs.declared.faults.PolicyFault.{PolicyFault}
use Rattle.book_policy.specs.declared.faults.PolicyFault.TheVariants.{NotToml, OtherVersion, BadKey, BadName, NameTwice, UnknownPrincipal, UnknownResource, UnknownPrivilege, TooMany, Memory}

abbrev pub fault_name : PolicyFault → List ℕ
fault_name NotToml = codes "not-toml"
fault_name OtherVersion = codes "other-version"
fault_name BadKey = codes "bad-key"
fault_name BadName = codes "bad-name"
fault_name NameTwice = codes "name-twice"
fault_name UnknownPrincipal = codes "unknown-principal"
fault_name UnknownResource = codes "unknown-resource"
fault_name UnknownPrivilege = codes "unknown-privilege"
fault_name TooMany = codes "too-many"
fault_name Memory = codes "memory"
