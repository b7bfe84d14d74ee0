-- Asking the neighbours (RULES, Asking the neighbours), of whatever the contracts allow: the repaired table node by node, the row of who named whom, the
-- refusals, and the chain from a notice over a repair and its labels to the walk. lib is the library, as Rattle or as C calls it. Proved in
-- proofs/Repairs.antt.
use Rattle.std.specs.Prelude.{true, false, List, ◌⊎◌, ◌≢◌, ◌↔◌, ◌≡◌, ℕ, ◌+◌, ◌^◌, ◌≤◌, ◌<◌, get_or, length, replicate, Ok}
use Rattle.cube.specs.Tables.{node_bit}
use Rattle.jobs.specs.Jobs.{label_for}
use Rattle.rule.specs.Cabinet.{cabinet}
use Rattle.spelling.specs.Laws.{Bytes, IsTable}
use Rattle.writer.specs.Writing.{Wrote}
use Rattle.repair.specs.Laws.{Holds, Lowest, NamesNode}
use Rattle.repair.specs.Repaired.{mask_of}
use Rattle.walk.specs.Walk.{row_bytes}
use Rattle.walk.specs.declared.Walked.{Walked}
use Rattle.theorems.specs.Demand3.{Walks}
use Rattle.theorems.specs.Words.{Takes, Works, place}
use Rattle.promises.specs.Demands.{LabelsTable}
use Rattle.promises.specs.Library.{Library}
use Rattle.promises.specs.Refusals.{RepairGiven, TableLength}
use Rattle.notice.specs.Notice.{a_notice}

-- handed are an old table, the masks, and a result and a row to write into; t and r are what these hold then
pub record Repairs (lib : Library) : Type 0 where
  -- "1, 2 (fault table, masks, result, row), 3, then 17 for a mask with a bit at n or above, from any node";
  pub refusal :
      {n k : ℕ} {faults masks result row t r : List ℕ} → lib.repairs n faults masks result row k t r
      → RepairGiven n faults masks (length result) (length row) k
  -- "result and row keep their content"
  pub kept :
      {n k : ℕ} {faults masks result row t r : List ℕ} → lib.repairs n faults masks result row k t r → k ≢ 0 → (t ≡ result) × (r ≡ row)
  -- ---- not refused, node by node: "the old faults, plus every node named by at least one node that the old table calls working",
  pub node :
      {n : ℕ} {faults masks result row t r : List ℕ} → lib.repairs n faults masks result row 0 t r → (k : ℕ)
      → (node_bit t k ≡ true) ↔ ((node_bit faults k ≡ true) ⊎ ((w : ℕ) × NamesNode n faults masks w k))
  -- and in the row "for each node added, one more than the lowest-numbered working node that named it,
  pub row :
      {n w k : ℕ} {faults masks result row t r : List ℕ} → lib.repairs n faults masks result row 0 t r → node_bit faults k ≡ false
      → NamesNode n faults masks w k → (v : ℕ) × (get_or r k 0 ≡ v + 1) × Lowest n faults masks k v
  -- and 0 for every other node"
  pub others :
      {n : ℕ} {faults masks result row t r : List ℕ} → lib.repairs n faults masks result row 0 t r → (k : ℕ)
      → (node_bit faults k ≡ true) ⊎ ((w : ℕ) → ¬ (NamesNode n faults masks w k)) → get_or r k 0 ≡ 0
  -- so a node was added exactly where its number in the row is not 0
  pub row_tells :
      {n : ℕ} {faults masks result row t r : List ℕ} → lib.repairs n faults masks result row 0 t r → (k : ℕ)
      → (get_or r k 0 ≢ 0) ↔ ((node_bit t k ≡ true) × (node_bit faults k ≡ false))
  -- the buffers have the lengths they had, and nothing is left of what stood there
  pub sized :
      {n k : ℕ} {faults masks result row t r : List ℕ} → lib.repairs n faults masks result row k t r
      → (length t ≡ length result) × (length r ≡ length row)
  pub overwritten :
      {n : ℕ} {faults masks result result' row row' t t' r r' : List ℕ} → lib.repairs n faults masks result row 0 t r
      → lib.repairs n faults masks result' row' 0 t' r' → (t ≡ t') × (r ≡ r')
  -- "masks of nodes the old table calls faulty are not heard"
  pub unheard :
      {n : ℕ} {faults masks masks' result result' row row' t t' r r' : List ℕ} → lib.repairs n faults masks result row 0 t r
      → lib.repairs n faults masks' result' row' 0 t' r' → ((w : ℕ) → w < 2 ^ n → node_bit faults w ≡ false → mask_of masks w ≡ mask_of masks' w)
      → (t ≡ t') × (r ≡ r')
  -- ---- "repairing the repaired table with the same masks adds nothing": it is not refused, the table stays, and the row is all 0
  pub again :
      {n k : ℕ} {faults masks result result' row row' t t' r r' : List ℕ} → lib.repairs n faults masks result row 0 t r → Bytes faults
      → TableLength n (length result') → length row' ≡ 2 ^ n → lib.repairs n t masks result' row' k t' r'
      → (k ≡ 0) × (t' ≡ t) × (r' ≡ replicate (2 ^ n) 0)
  -- of the tables that hold the old faults and every neighbour that a node working in the old table names, it is the least
  pub holds :
      {n : ℕ} {faults masks result row t r : List ℕ} → lib.repairs n faults masks result row 0 t r → Holds n faults masks t
  pub least :
      {n : ℕ} {faults masks result row t r u : List ℕ} → lib.repairs n faults masks result row 0 t r → Holds n faults masks u → (k : ℕ)
      → node_bit t k ≡ true → node_bit u k ≡ true
  -- what is added is never more than the masks name, and with no mask set the table stays
  pub no_more :
      {n : ℕ} {faults masks result row t r : List ℕ} → lib.repairs n faults masks result row 0 t r → (k : ℕ) → node_bit t k ≡ true → node_bit faults k ≡ false
      → (w : ℕ) × NamesNode n faults masks w k
  pub none :
      {n : ℕ} {faults masks result row t r : List ℕ} → lib.repairs n faults masks result row 0 t r → ((w : ℕ) → w < 2 ^ n → mask_of masks w ≡ 0)
      → (t ≡ faults) × (r ≡ replicate (2 ^ n) 0)
  -- ---- what is made is a table,
  pub table :
      {n : ℕ} {faults masks result row t r : List ℕ} → lib.repairs n faults masks result row 0 t r → IsTable n t × (Bytes faults → Bytes t)
  -- which the notice writer takes, with a buffer that has room for every notice,
  pub writes :
      {n : ℕ} {faults masks result row t r before after : List ℕ} {x : Wrote} → lib.repairs n faults masks result row 0 t r
      → 4099 ≤ length before → lib.writes n t before x after → (len : ℕ) × (x ≡ Ok len)
  -- and labelling
  pub labels : {n : ℕ} {faults masks result row t r : List ℕ} → lib.repairs n faults masks result row 0 t r → LabelsTable lib n t
  -- the chain: a notice was read, its table repaired, and the repaired cabinet labelled. Repairing is then refused only for the masks and the lent buffers,
  pub notice_repairs :
      {n m taken k : ℕ} {bytes old faults masks result row t r : List ℕ} → lib.reads bytes old (a_notice n m taken) faults
      → lib.repairs n faults masks result row k t r → (k ≡ 0) ⊎ (k ≡ 2) ⊎ (k ≡ 17)
  -- and with the labels walks arrive as demand 3 says, over no node that the notice had, nor one that was named
  pub walks :
      {n m taken rule j exchanges s d : ℕ} {bytes old faults masks result row t r draining closed before buffer : List ℕ} {w : Walked}
      → lib.reads bytes old (a_notice n m taken) faults → lib.repairs n faults masks result row 0 t r
      → let K = cabinet n rule t draining closed in
      lib.labels K j before (Ok exchanges) buffer → Works K s → Takes K d → lib.walks n j s d buffer row_bytes w
      → Walks K (label_for n j buffer) s d w
      × ((i : ℕ) → i ≤ w.hops → (node_bit faults (place w i) ≡ false) × ((u : ℕ) → ¬ (NamesNode n faults masks u (place w i))))
