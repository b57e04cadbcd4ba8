-- What growth sees of a job, and what its gap segments meet in the job's own rows
pub mod View
pub mod Met
