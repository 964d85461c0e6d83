-- Bodies as a log keeps them, and as a caller hands over several.
use Rattle.std.specs.Prelude.{ℕ, ◌-◌, List, map, Vec, vec_len, vec_capacity}
use Rattle.std.specs.declared.alloc.Global.{Global}
use Rattle.qm_glog.specs.Cut.{cut}
use Rattle.qm_glog.specs.declared.bodies.Bodies.{Bodies}

-- the bytes of each
abbrev pub contents : List (Vec ℕ Global) → List (List ℕ)
contents bodies = map (λ v. v.items) bodies

-- the bodies that stand one behind another, the first one first
abbrev pub list_of : Bodies → List (List ℕ)
list_of bodies = cut 0 bodies.ends.items bodies.bytes.items

-- for how many more bytes there is memory
abbrev pub free_bytes : Bodies → ℕ
free_bytes bodies = vec_capacity bodies.bytes - vec_len bodies.bytes

-- for how many more bodies there is memory, beside their bytes
abbrev pub free_ends : Bodies → ℕ
free_ends bodies = vec_capacity bodies.ends - vec_len bodies.ends
