-- A cabinet, as one job has it (RULES, Which nodes work): all that labelling is handed and a label can depend on, in one record, and what it then has for
-- labels. Contracts and theorems speak of a cabinet, so another thing that labelling is handed is another field here.
use Rattle.std.specs.Prelude.{Bool, cond, not, ◌&&◌, ◌||◌, List, ℕ, ◌^◌, leb}
use Rattle.cube.specs.Tables.{empty_table, node_bit, tab}
use Rattle.rule.specs.Rule.{exchanges, label}

pub record Cabinet : Type 0 where
  -- the dimension
  pub n : ℕ
  -- the number of the rule: so many neighbours that are faulty or unsafe make a node unsafe
  pub rule : ℕ
  -- the lent fault table
  pub faults : List ℕ
  -- the lent table of draining nodes, of the same layout (A4)
  pub draining : List ℕ
  -- the lent table of the nodes that the job closes for its own traffic, of the same layout (A10)
  pub closed : List ℕ

abbrev pub cabinet : (n rule : ℕ) (faults draining closed : List ℕ) → Cabinet
cabinet n rule faults draining closed = record { n = n; rule = rule; faults = faults; draining = draining; closed = closed }

-- one on which no node drains and the job closes none
abbrev pub plain : (n rule : ℕ) (faults : List ℕ) → Cabinet
plain n rule faults = cabinet n rule faults (empty_table n) (empty_table n)

-- the same cabinet by the rule k
abbrev pub by_rule : (k : ℕ) → Cabinet → Cabinet
by_rule k K = cabinet K.n k K.faults K.draining K.closed

-- there are two rules (RULES, Labels): 2, that of Lee and Hayes, and 3, that of Chiu and Wu
unfoldable pub is_rule : (k : ℕ) → Bool
is_rule k = leb 2 k && leb k 3

-- the nodes that are faulty for the job: "closed counts as faulty", so these are the faulty ones and those that it closes
abbrev pub faulty : Cabinet → ℕ → Bool
faulty K x = node_bit K.faults x || node_bit K.closed x

-- those that drain: a node that is faulty, or closed, does not, whatever the table of draining nodes says
abbrev pub drains : Cabinet → ℕ → Bool
drains K x = not (faulty K x) && node_bit K.draining x

-- the nodes that do not work: the faulty ones and those that drain
abbrev pub out : Cabinet → ℕ → Bool
out K x = faulty K x || node_bit K.draining x

-- the label byte of a node that does not work: 3 faulty or closed, 4 draining
abbrev pub out_byte : Cabinet → ℕ → ℕ
out_byte K x = cond (faulty K x) 3 4

-- the number of exchanges, and the label bytes of all nodes
unfoldable pub exchanges_of : Cabinet → ℕ
exchanges_of K = exchanges K.n K.rule (out K)

unfoldable pub labels_of : Cabinet → List ℕ
labels_of K = tab (2 ^ K.n) (label K.n K.rule (out K) (out_byte K))
