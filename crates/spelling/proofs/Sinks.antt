-- The laws of the two sinks: nothing put leaves them as they are, bytes put behind others are put as one piece, and they take up their room.
use mathlib.Core.List.{List, [], ◌∷◌, ◌++◌}
use mathlib.Core.Path.{◌≡◌, sym, ap, ap₂, ◌∙◌}
use Prim.Native.Nat.{ℕ, ◌+◌, ◌-◌, ◌≤◌}
use native.Mathlib.Omega.{arith}
use lib.ListN.{length, length-append, set}
use Rattle.cube.specs.Over.{over_at}
use Rattle.cube.proofs.Over.{length_over, over_none, over_one, over_then}
use Rattle.spelling.specs.Sinks.{Counted, Written, most}

-- ---- a count

pub count_nothing : (before : ℕ) → Counted before [] before
count_nothing before = record { fits = omega arith; counted = omega arith }

pub count_more : {a b c : ℕ} {v w : List ℕ} → Counted a v b → Counted b w c → Counted a (v ++ w) c
count_more {a} {b} {c} {v} {w} p q =
    record {
      fits = omega (arith, p.fits, p.counted, q.fits, length-append v w);
      counted = omega (arith, p.counted, q.counted, length-append v w);
    }

pub count_left : {a b : ℕ} {w : List ℕ} → Counted a w b → most - a ≡ length w + (most - b)
count_left p = omega (arith, p.fits, p.counted)

-- ---- the front of a buffer

pub write_nothing : (s : List ℕ) (at : ℕ) → Written s at [] s at
write_nothing s at = record { fits = omega arith; place = omega arith; bytes = over_none at s }

pub write_one : (s : List ℕ) (at x : ℕ) → 1 ≤ length s - at → Written s at (x ∷ []) (set s at x) (at + 1)
write_one s at x h = record { fits = omega arith; place = omega arith; bytes = over_one at x s (omega arith) }

-- its length stays
write_sized : {s t : List ℕ} {at next : ℕ} {w : List ℕ} → Written s at w t next → length t ≡ length s
write_sized {s} {t} {at} {w = []} p = ap length (p.bytes ∙ sym (over_none at s))
write_sized {s} {t} {at} {w = x ∷ w} p = ap length p.bytes ∙ length_over at (x ∷ w) s (omega (arith, p.fits))

pub write_left : {s t : List ℕ} {at next : ℕ} {w : List ℕ} → Written s at w t next → length s - at ≡ length w + (length t - next)
write_left p = omega (arith, p.fits, p.place, write_sized p)

write_then : {s t u : List ℕ} {at next end : ℕ} {v w : List ℕ} → Written s at v t next → Written t next w u end → over_at next w t ≡ over_at at (v ++ w) s
write_then {s} {t} {at} {next} {v = []} {w} p q =
    ap₂ (λ (k : ℕ) (l : List ℕ). over_at k w l) (p.place ∙ omega arith) (p.bytes ∙ sym (over_none at s))
write_then {s} {t} {at} {next} {v = x ∷ v} {w} p q =
    ap₂ (λ (k : ℕ) (l : List ℕ). over_at k w l) p.place p.bytes ∙ over_then at (x ∷ v) s (omega (arith, p.fits)) w

pub write_more : {s t u : List ℕ} {at next end : ℕ} {v w : List ℕ} → Written s at v t next → Written t next w u end → Written s at (v ++ w) u end
write_more {v} {w} p q =
    record {
      fits = omega (arith, write_left p, q.fits, length-append v w);
      place = omega (arith, p.place, q.place, length-append v w);
      bytes = q.bytes ∙ write_then p q;
    }
