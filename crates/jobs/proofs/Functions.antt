-- The crate's public functions as they are seen from outside, each with the claims that the check makes of its clauses, and what its contract says: the
-- answer, and what is left of what was lent, for whatever is handed; and that an entry point asks nothing of its caller.
use mathlib.Core.Bool.{Bool}
use mathlib.Core.List.{List}
use mathlib.Core.Path.{refl, ap₂}
use Prim.Native.Nat.{ℕ, ◌+◌, ◌*◌, ◌^◌}
use Rattle.cube.specs.Allowed.{AsksNothing, Function, Nothing}
use Rattle.cube.proofs.Contracts.{Says}
use Rattle.jobs.specs.Jobs as spec
use Rattle.cube.specs.Tables.{label_in}
use Rattle.jobs.specs.contracts.Labels.at as at-claims
use Rattle.jobs.proofs.Labels.at.Reads as at-claims-reads
use Rattle.jobs.specs.contracts.Labels.of as of-claims
use Rattle.jobs.proofs.Labels.of.Reads as of-claims-reads
use Rattle.jobs.specs.contracts.half as half-claims
use Rattle.jobs.proofs.half.Reads as half-claims-reads
use Rattle.jobs.specs.contracts.is_job
use Rattle.jobs.proofs.is_job.Reads as is_job-reads
use Rattle.jobs.specs.contracts.label_bytes
use Rattle.jobs.proofs.label_bytes.Reads as label_bytes-reads

abbrev pub is-job : Function is_job.ended ℕ Bool Nothing
is-job =
    record {
      clauses = λ w. is_job.clauses w.𝓛 w.𝓜.mem w.𝓡.returns;
      asked = is_job-reads.Asked;
      post = is_job-reads.Post;
      handed = λ κs a. a.0;
      answered = λ κs r. r;
      left = λ κs e. tt;
    }

pub is_job_asks : AsksNothing is-job
is_job_asks = record { asked = λ κs a. tt; empty = λ w κs a. (tt, refl) }

pub is_job_says : Says is-job spec.is_job (λ i. tt)
is_job_says = record { says = λ κs a r e p. (p, refl) }

abbrev pub label-bytes : Function label_bytes.ended ℕ ℕ Nothing
label-bytes =
    record {
      clauses = λ w. label_bytes.clauses w.𝓛 w.𝓜.mem w.𝓡.returns;
      asked = label_bytes-reads.Asked;
      post = label_bytes-reads.Post;
      handed = λ κs a. a.0;
      answered = λ κs r. r;
      left = λ κs e. tt;
    }

pub label_bytes_says : Says label-bytes spec.label_bytes (λ i. tt)
label_bytes_says = record { says = λ κs a r e p. (p, refl) }

-- the dimension, the job, and the bytes and their place in memory: so the returned half is settled as a part of the caller's own bytes
abbrev pub half : Function half-claims.ended (ℕ × ℕ × List ℕ × (ℕ × ℕ)) (List ℕ × (ℕ × ℕ)) Nothing
half =
    record {
      clauses = λ w. half-claims.clauses w.𝓛 w.𝓜.mem w.𝓡.returns;
      asked = half-claims-reads.Asked;
      post = half-claims-reads.Post;
      handed = λ κs a. (a.0, a.1.0, a.1.1.0.now, a.1.1.0.ref_ptr);
      answered = λ κs r. (r.now, r.ref_ptr);
      left = λ κs e. tt;
    }

pub half_says : Says half (λ i. (spec.half i.1 (2 ^ i.0) i.2, (i.3.0, i.3.1 + i.1 * 2 ^ i.0))) (λ i. tt)
half_says = record { says = λ κs a r e p. (ap₂ (λ (s : List ℕ) (q : ℕ × ℕ). (s, q)) p.0 p.1, refl) }

-- handed the dimension, the job and the lent buffer
abbrev pub labels-of : Function of-claims.ended (ℕ × ℕ × List ℕ) (ℕ × List ℕ) Nothing
labels-of =
    record {
      clauses = λ w. of-claims.clauses w.𝓛 w.𝓜.mem w.𝓡.returns;
      asked = of-claims-reads.Asked;
      post = of-claims-reads.Post;
      handed = λ κs a. (a.0, a.1.0, a.1.1.0.now);
      answered = λ κs r. (r.n, r.bytes.now);
      left = λ κs e. tt;
    }

pub labels_of_says : Says labels-of (λ i. (i.0, spec.half i.1 (2 ^ i.0) i.2)) (λ i. tt)
labels_of_says = record { says = λ κs a r e p. (ap₂ (λ (n : ℕ) (s : List ℕ). (n, s)) p.0 p.1, refl) }

-- handed the labels of a job and the node
abbrev pub label-at : Function at-claims.ended (List ℕ × ℕ) ℕ Nothing
label-at =
    record {
      clauses = λ w. at-claims.clauses w.𝓛 w.𝓜.mem w.𝓡.returns;
      asked = at-claims-reads.Asked;
      post = at-claims-reads.Post;
      handed = λ κs a. (a.0.bytes.now, a.1.0);
      answered = λ κs r. r;
      left = λ κs e. tt;
    }

pub label_at_says : Says label-at (λ i. label_in i.0 i.1) (λ i. tt)
label_at_says = record { says = λ κs a r e p. (p, refl) }
