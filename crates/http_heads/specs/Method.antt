-- The methods that are served (RFC 9110, sections 9.3.1 and 9.3.2).
use Rattle.std.specs.Prelude.{ℕ, List, codes, Option, None, Some, if◌then◌else◌}
use Rattle.std.specs.Str.{bytes_eq}
use Rattle.http_heads.specs.declared.method.Method.{Method}
use Rattle.http_heads.specs.declared.method.Method.TheVariants.{Get, Head}

-- the method of a name, which counts its case; none where it is not served
abbrev pub method_of : List ℕ → Option Method
method_of name = if bytes_eq name (codes "GET") then Some Get else (if bytes_eq name (codes "HEAD") then Some Head else None)
