pub mod EdgeJobs
