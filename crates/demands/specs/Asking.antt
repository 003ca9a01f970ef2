-- 02, T-11, "Ask before writing": what a list is answered when it is sent. Assumes nothing.
use Rattle.std.specs.Prelude.{ℕ, Bool, cond, List, leb, length}
use Rattle.file_commands.specs.WriteFile.{judge_list_of}
use Rattle.demands.specs.Orders.{done_answer, refused_answer}

-- What a unit of this limit answers in application mode to a WRITE FILE of a list of any length, by whether its reply leaves: a list judged fit is done;
-- another is refused, or dropped for its length (7) where no message on its bus can hold it.
abbrev pub list_answer : ℕ → Bool → List ℕ → ℕ
list_answer limit leaves list =
    cond (judge_list_of limit list) (done_answer leaves) (cond (leb (length list) limit) (refused_answer leaves) 7)
