-- What the program prints for a file: its numbers taken for a job, and the text of that job's answer.
use Rattle.std.specs.Prelude.{ℕ, List}
use Rattle.number_file.specs.Numbers.{reading}
use Rattle.printed.specs.Jobs.{file_text}
use Rattle.job_file.specs.JobFile.{job_file}

unfoldable pub printed : List ℕ → List ℕ → List ℕ → List ℕ
printed file numbers words = file_text job_file (reading file numbers) words
